-- The tests that the compiler makes. Assumes nothing.
use mathlib.Core.Path.{◌≡◌, refl, sym, ap, ◌∙◌}
use mathlib.Core.Bool.{Bool, true, false, not, ◌&&◌, ◌||◌, false≢true, true≢false}
use mathlib.Core.List.{List, [], ◌∷◌, map}
use Prim.Native.Nat.{ℕ, zero, suc, ◌^◌, ◌<◌}
use native.Mathlib.Omega.{arith}
use lib.Bits.{bit_and}
use lib.Dec.{eqb, leb, ltb}
use lib.ListN.{length, get_or}
use Rattle.std.specs.List.{list_all}
use borrow.Author.Tests.{eq-eqb, ne_eqb}
use Rattle.model.specs.Lists.{any, all, select, upto}
use Rattle.model.specs.Words.{bit, bits, union}
use Rattle.laws.proofs.ListLaws.{of-any, in_any, of-select, in_select, of-upto, in_upto}
use Rattle.laws.proofs.WordLaws.{zero_bit, no_bits, bit_high, of-bits, in_bits, within_antisym}
use Rattle.laws.proofs.ShiftLaws.{and-bit, of-and-bit}
use Rattle.model.specs.Pattern.{Pattern}
use Rattle.model.specs.PatternText.{symbol_of}
use Rattle.model.specs.PatternStates.{State, start, passed, when, nullable, last, final}
use Rattle.model.specs.Compile.{letters_below}
use Rattle.patterns.proofs.Splits.{of-when, in_when}
use Rattle.patterns.proofs.StateLaws.{of_family, in_family}
use Rattle.numbering.specs.Exploring.{joined, state_at, listed}
use Rattle.numbering.proofs.JoinLaws.{joined_of, joined_in}
use Rattle.numbering.proofs.ListedLaws.{listed-length, listed_at}
use Rattle.compiler.specs.Answers.{final_in}

-- ---- letters

pub letters-all : (k : ℕ) (s : List ℕ) → list_all (λ b. leb 39 (symbol_of b) || ltb (symbol_of b) k) s ≡ letters_below k s
unfolding letters_below all
letters-all k [] = refl
letters-all k (b ∷ s) = ap (λ (t : Bool). (leb 39 (symbol_of b) || ltb (symbol_of b) k) && t) (letters-all k s)

-- ---- accepting states

common : (w l : ℕ) → w < 2 ^ 64 → (t : Bool) → any (bit l) (bits w) ≡ t → not (eqb (bit_and w l) 0) ≡ t
common w l h true e =
    let m = of-any (bit l) (bits w) e in
    let b = and-bit w l m.0 (of-bits w m.1).0 m.2 in
    ap not (ne_eqb (bit_and w l) 0 (λ z. false≢true (sym (zero_bit m.0) ∙ ap (λ (x : ℕ). bit x m.0) (sym z) ∙ b)))
common w l h false e = ap not (eq-eqb (bit_and w l) 0 (no_bits (bit_and w l) (λ b. go b (bit (bit_and w l) b) refl)))
  where
    go : (b : ℕ) (t : Bool) → bit (bit_and w l) b ≡ t → t ≡ false
    go b true q =
        let u = of-and-bit w l b q in
        absurd (true≢false (sym (in_any (bit l) (in_bits w b u.0 (bit_high w 64 b h u.0)) u.1) ∙ e))
    go b false q = refl

pub final-start : (sets : List ℕ) (i : ℕ) (n : Bool) (l : ℕ) → i ≡ 0 → n ≡ final_in n l (state_at sets i)
unfolding final_in state_at
final-start sets i n l e = rw e

pub final-set : (sets : List ℕ) (i : ℕ) (n : Bool) (l : ℕ) → (i ≡ 0 → ⊥) → get_or sets i 0 < 2 ^ 64
    → not (eqb (bit_and (get_or sets i 0) l) 0) ≡ final_in n l (state_at sets i)
unfolding final_in state_at
final-set sets zero n l o h = absurd (o refl)
final-set sets (suc i) n l o h = common (get_or sets (suc i) 0) l h (any (bit l) (bits (get_or sets (suc i) 0))) refl

-- the accepting word is the definition's
pub accepting-right : (e : Pattern) (sets : List ℕ) (n : ℕ) (Q : List State) (m : Bool) (l : ℕ) → Q ≡ listed sets n → m ≡ nullable e → l ≡ last e
    → joined (λ (i : ℕ). when (final_in m l (state_at sets i)) (2 ^ i)) n ≡ union (map (λ i. 2 ^ i) (select (λ i. final e (get_or Q i start)) (upto (length Q))))
unfolding final final_in
accepting-right e sets n Q m l q em el =
    let len : length Q ≡ n = ap length q ∙ listed-length sets n in
    within_antisym _ _
    (λ b h.
    let t = joined_of (λ (i : ℕ). when (final_in m l (state_at sets i)) (2 ^ i)) n b h in
    let i = t.0 in
    let lt = t.1 in
    let u = of-when (final_in m l (state_at sets i)) (2 ^ i) b t.2 in
    in_family (λ j. 2 ^ j) (select (λ j. final e (get_or Q j start)) (upto (length Q))) b i (in_select (λ j. final e (get_or Q j start)) (in_upto (length Q) i (omega arith)) (same i t.1 ∙ u.0)) u.1)
    (λ b h.
    let t = of_family (λ j. 2 ^ j) (select (λ j. final e (get_or Q j start)) (upto (length Q))) b h in
    let i = t.0 in
    let s = of-select (λ j. final e (get_or Q j start)) (upto (length Q)) t.1 in
    let lt = of-upto (length Q) s.0 in
    let k : t.0 < n = omega arith in
    joined_in (λ (i : ℕ). when (final_in m l (state_at sets i)) (2 ^ i)) n b t.0 k (in_when _ (2 ^ t.0) b (sym (same t.0 k) ∙ s.1) t.2))
  where
    part : (x : State) → final e x ≡ final_in m l x
    part start = sym em
    part (passed w) = ap (λ (y : ℕ). any (bit y) (bits w)) (sym el)

    same : (i : ℕ) → i < n → final e (get_or Q i start) ≡ final_in m l (state_at sets i)
    same i h = ap (λ (R : List State). final e (get_or R i start)) q ∙ ap (final e) (listed_at sets n i h) ∙ part (state_at sets i)
