-- The turns of a loop that writes the places of one row, and the row that it leaves. Assumes nothing.
use mathlib.Core.Path.{◌≡◌, refl, sym, ap, ap₂, subst, ◌∙◌}
use mathlib.Core.Logic.{⊎_elim}
use mathlib.Core.Bool.{Bool, false, not, ◌||◌}
use mathlib.Core.List.{List}
use Prim.Native.Nat.{ℕ, suc, ◌+◌, ◌*◌, ◌≤◌, ◌<◌}
use native.Mathlib.Nat.{le_of_suc-le-suc, eq-or-lt_of_le}
use native.Mathlib.Omega.{arith}
use lib.Dec.{eqb}
use lib.ListN.{length, set, length-set}
use lib.Seq.{get_or-set_same, get_or-set_other}
use Rattle.model.specs.Words.{word}
use Rattle.model.specs.Domains.{row}
use Rattle.inplace.specs.InTable.{Only}
use Rattle.inplace.specs.Written.{Written}
use Rattle.inplace.proofs.Loops.{changed-none, changed-step}
use Rattle.inplace.proofs.Sides.{Side, side-of}

pub written_start : (T : List ℕ) (a : ℕ) (f : ℕ → ℕ) → Written T a f 0 T false
written_start T a f = record { size = refl; low = λ i h. absurd (omega arith); kept = λ k h. refl; flag = changed-none _ _ }

-- a turn, by what `put` ensures
pub written-turn : (T : List ℕ) (a : ℕ) (f : ℕ → ℕ) (n : ℕ) (U : List ℕ) (c : Bool) → Written T a f n U c → suc (a + n) < length T → (w : ℕ) → w ≡ f n
    → (U₁ : List ℕ) (p c' : Bool)
    → (U₁ ≡ set U (a + n + 1) w) × (p ≡ not (eqb (word U (a + n + 1)) w)) → c' ≡ (c || p) → Written T a f (n + 1) U₁ c'
written-turn T a f n U c t h w ew U₁ p c' hp hc =
    let ea : a + n + 1 ≡ suc (a + n) = omega arith in
    let en : n + 1 ≡ suc n = omega arith in
    let d : U₁ ≡ set U (suc (a + n)) w = hp.0 ∙ ap (λ (i : ℕ). set U i w) ea in
    let ep : p ≡ not (eqb (word U (suc (a + n))) w) = hp.1 ∙ ap (λ (i : ℕ). not (eqb (word U i) w)) ea in
    rw (hc, d, en) (step ep)
  where
    here : word (set U (suc (a + n)) w) (suc (a + n)) ≡ w
    here = let s = t.size in get_or-set_same U (suc (a + n)) w 0 (omega arith)

    old : (i : ℕ) → i < n → word (set U (suc (a + n)) w) (suc (a + i)) ≡ word U (suc (a + i))
    old i l = get_or-set_other U (suc (a + n)) (suc (a + i)) w 0 (λ e. omega arith)

    before : word U (suc (a + n)) ≡ word T (suc (a + n))
    before = t.kept (suc (a + n)) (λ i l e. omega arith)

    step : p ≡ not (eqb (word U (suc (a + n))) w) → Written T a f (suc n) (set U (suc (a + n)) w) (c || p)
    step ep = record {
      size = length-set U (suc (a + n)) w ∙ t.size;
      low = λ i l. ⊎_elim
          (λ e. subst (λ (j : ℕ). word (set U (suc (a + n)) w) (suc (a + j)) ≡ f j) (sym e) (here ∙ ew))
          (λ k. old i k ∙ t.low i k)
          (eq-or-lt_of_le (le_of_suc-le-suc l));
      kept = λ k g. get_or-set_other U (suc (a + n)) k w 0 (g n (omega arith)) ∙ t.kept k (λ i l. g i (omega arith));
      flag = changed-step _ _ _ n c p t.flag old (ep ∙ ap₂ (λ (u v : ℕ). not (eqb u v)) before (sym here));
    }

-- the row that is left of string x
pub written-side : (T : List ℕ) (x : ℕ) (f : ℕ → ℕ) (n : ℕ) (U : List ℕ) (c : Bool) → n ≤ 63 → 64 * x + 64 ≤ length T → (M : List ℕ)
    → ((i : ℕ) → i < n → f i ≡ word M (suc i))
    → Written T (64 * x) f n U c → Side (row T x) M n (row U x) c
written-side T x f n U c s g M e t = side-of T U M x n c s g t.size (t.kept (64 * x) (λ i l d. omega arith)) (λ i l. t.low i l ∙ e i l)
    (λ i k h. t.kept (suc (64 * x + i)) (λ j l d. omega arith)) t.flag

pub written-only : (T : List ℕ) (x : ℕ) (f : ℕ → ℕ) (n : ℕ) (U : List ℕ) (c : Bool) → n ≤ 63 → Written T (64 * x) f n U c → Only T x U
written-only T x f n U c s t = record { size = t.size; before = λ k h. t.kept k (λ i l e. omega arith); after = λ k h. t.kept k (λ i l e. omega arith) }
