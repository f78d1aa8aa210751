-- How a table is made ready, from what the functions that make rows tidy and look up say. Assumes nothing.
use Rattle.std.specs.Prelude.{Option, Some, None}
use Rattle.std.proofs.lemmas.Option.{none-some, same_Some}
use mathlib.Core.Path.{◌≡◌, refl, sym, ap, subst, ◌∙◌}
use mathlib.Core.Bool.{Bool, true, false, false≢true}
use mathlib.Core.List.{List}
use Prim.Native.Nat.{ℕ, suc, ◌+◌, ◌-◌, ◌*◌, ◌/◌, ◌≤◌, ◌<◌}
use native.Mathlib.Omega.{arith}
use lib.Dec.{ltb}
use lib.ListN.{length}
use borrow.Author.Tests.{lt-ltb, le-ltb, ltb-true, ltb-false}
use Rattle.model.specs.Words.{bit, word, Words}
use Rattle.model.specs.Domains.{str, num, owner, row}
use Rattle.model.specs.Constraints.{Problem, always, width}
use Rattle.model.specs.Solutions.{WellFormed}
use Rattle.model.specs.Support.{narrowed}
use Rattle.model.specs.Rounds.{every_value, settled}
use Rattle.laws.proofs.RoundLaws.{settled-below, settled-stable}
use Rattle.laws.proofs.DomainLaws.{row-length}
use Rattle.shortcuts.specs.Waiting.{Trimming}
use Rattle.shortcuts.proofs.WaitLaws.{in_trims, above_step}
use Rattle.shortcuts.proofs.RunningLaws.{trim_start, trim-next, dead-below, dead-length}
use Rattle.rows.specs.Rows.{trimmed}
use Rattle.rows.proofs.TrimLaws.{trimmed-length}
use Rattle.rows.proofs.StoreLaws.{stored-length, row-stored}
use Rattle.inplace.proofs.Tidied.{trim-placed}
use Rattle.inplace.specs.InTable.{Trimmed}
use Rattle.inplace.proofs.Tables.{row_first}
use Rattle.layout.specs.declared.Parts.{Parts}
use Rattle.rounds.proofs.ValueLaws.{Looked}
use Rattle.index.specs.Index.{position, Marked}
use Rattle.index.proofs.WakingLaws.{touching_wakes, touching-inside}
use Rattle.waiting.specs.Turns.{Pending}
use Rattle.waiting.specs.Beginnings.{ChildAt, Trims, Readies, Wakes, Lengths}
use Rattle.waiting.proofs.StartLaws.{start-whole, start-text, start-number}

-- ---- one row

module _ (U : List ℕ) (x : ℕ) (f : 64 * x + 64 ≤ length U) {W : List ℕ} {some : Bool} (t : Trimmed U x W some) where
  pub tidied_length : length W ≡ length U
  tidied_length = go some refl
    where
      go : (s : Bool) → some ≡ s → length W ≡ length U
      go true q = ap length (t.left q).0 ∙ stored-length U x (trimmed (row U x)) f (trimmed-length (row U x) ∙ row-length U x f)
      go false q = ap length (t.nothing q).0

  pub tidied_step : some ≡ true → (P : Problem) → length U ≡ width P → x < P.strings → W ≡ narrowed P (always x) U
  tidied_step q P ln h = (t.left q).0 ∙ trim-placed P x h U ln

  -- trimming would leave nothing of it
  pub tidied_none : some ≡ false → (P : Problem) → length U ≡ width P → x < P.strings → every_value P (narrowed P (always x) U) ≡ false
  tidied_none q P ln h =
      let lr = trimmed-length (row U x) ∙ row-length U x f in
      let e : row (narrowed P (always x) U) x ≡ trimmed (row U x) = ap (λ (S : List ℕ). row S x) (sym (trim-placed P x h U ln)) ∙ row-stored U x (trimmed (row U x)) f lr in
      dead-length P (narrowed P (always x) U) x h (sym (row_first (narrowed P (always x) U) x) ∙ ap (λ (r : List ℕ). word r 0) (e ∙ sym (t.nothing q).1))

-- ---- every row

-- the rows before x are trimmed
pub record Trimmings (s : ℕ) (T U : List ℕ) (x : ℕ) : Type 0 where
  pub same_length : length U ≡ length T
  pub trims : (P : Problem) → s ≡ P.strings → length T ≡ width P → Words T → Trimming P T U x

pub trims-start : (s : ℕ) (T : List ℕ) → Trimmings s T T 0
trims-start s T = record { same_length = refl; trims = λ P e ln bd. trim_start P T bd ln }

module _ {s : ℕ} {T U W : List ℕ} {x : ℕ} {some : Bool} (fits : 64 * s ≤ length T) (h : x < s) (g : Trimmings s T U x) (t : Trimmed U x W some) where
  inside : 64 * x + 64 ≤ length U
  inside = let l = g.same_length in omega arith

  pub trims-length : length W ≡ length T
  trims-length = tidied_length U x inside t ∙ g.same_length

  pub trims-next : some ≡ true → Trimmings s T W (x + 1)
  trims-next q = record {
    same_length = trims-length;
    trims = λ P e ln bd.
        let i : x < P.strings = omega arith in
        let w : W ≡ narrowed P (always x) U = tidied_step U x inside t q P (g.same_length ∙ ln) i in
        let z : suc x ≡ x + 1 = omega arith in
        subst (Trimming P T W) z (subst (λ (Y : List ℕ). Trimming P T Y (suc x)) (sym w) (trim-next P T bd ln i (g.trims P e ln bd)));
  }

  pub trims-stop : some ≡ false → Trims s T W false
  trims-stop q = record {
    same_length = trims-length;
    done = λ z. absurd (false≢true z);
    dead = λ z P e ln bd.
        let i : x < P.strings = omega arith in
        dead-below P (settled P T) (narrowed P (always x) U) (trim-next P T bd ln i (g.trims P e ln bd)).above (tidied_none U x inside t q P (g.same_length ∙ ln) i);
  }

pub trims-end : {s : ℕ} {T U : List ℕ} (x : ℕ) → x ≡ s → Trimmings s T U x → Trims s T U true
trims-end {s} {T} {U} x e g = record { same_length = g.same_length; done = λ q P d ln bd. subst (Trimming P T U) e (g.trims P d ln bd); dead = λ q. absurd (false≢true (sym q)) }

-- ---- the three ways to make a table ready

module _ (s : ℕ) (T : List ℕ) where
  pub ready-whole : (from : Option ℕ) → from ≡ None → {U : List ℕ} {all : Bool} → Trims s T U all → Readies s from T U all
  ready-whole from e t = record {
    same_length = t.same_length;
    whole = λ q z. t.done q;
    text = λ q k z. absurd (none-some k (sym e ∙ z));
    number = λ q k z. absurd (none-some k (sym e ∙ z));
    dead = t.dead;
  }

  module _ (from : Option ℕ) (k : ℕ) (e : from ≡ Some k) where
    same : (l : ℕ) → from ≡ Some l → k ≡ l
    same l z = same_Some k l (sym e ∙ z)

    pub ready-text : k < 64 * s → 64 * s ≤ length T → {U : List ℕ} {some : Bool} → Trimmed T (k / 64) U some → Readies s from T U some
    ready-text h f {U} {some} t = record {
      same_length = tidied_length T (k / 64) (omega arith) t;
      whole = λ q z. absurd (none-some k (sym z ∙ e));
      text = λ q l z y P w ln. subst (λ (x : ℕ). U ≡ narrowed P (always (x / 64)) T) (same l z) (tidied_step T (k / 64) (omega arith) t q P ln (omega arith));
      number = λ q l z y. absurd (omega (arith, same l z));
      dead = λ q P w ln bd.
          let i : k / 64 < P.strings = omega arith in
          dead-below P (settled P T) (narrowed P (always (k / 64)) T)
          (above_step P (settled P T) T (always (k / 64)) (in_trims P (k / 64) i) (settled-stable P T bd) (settled-below P T))
          (tidied_none T (k / 64) (omega arith) t q P ln i);
    }

    pub ready-number : 64 * s ≤ k → Readies s from T T true
    ready-number h = record {
      same_length = refl;
      whole = λ q z. absurd (none-some k (sym z ∙ e));
      text = λ q l z y. absurd (omega (arith, same l z));
      number = λ q l z y. refl;
      dead = λ q. absurd (false≢true (sym q));
    }

-- ---- what waits then

owner-string : (s k : ℕ) → k < 64 * s → owner s k ≡ str (k / 64)
unfolding owner
owner-string s k h = rw (lt-ltb k (64 * s) h)

owner-number : (s k : ℕ) → 64 * s ≤ k → owner s k ≡ num (k - 64 * s)
unfolding owner
owner-number s k h = rw (le-ltb k (64 * s) h)

pub wakes_all : {p : Parts} {ix : List ℕ} {from : Option ℕ} {w : ℕ} → from ≡ None → ((j : ℕ) → bit w j ≡ true → j < p.c) × ((j : ℕ) → j < p.c → bit w j ≡ true) → Wakes p ix from w
wakes_all e a = record { all = λ l. a; named = λ k l. absurd (none-some k (sym e ∙ l)) }

pub wakes_named : {p : Parts} {ix : List ℕ} {from : Option ℕ} {k w : ℕ} → from ≡ Some k → w ≡ word ix (position p.s (owner p.s k)) → Wakes p ix from w
wakes_named {p} {ix} {from} {k} {w} q e = record {
  all = λ l. absurd (none-some k (sym l ∙ q));
  named = λ n l. subst (λ (x : ℕ). w ≡ word ix (position p.s (owner p.s x))) (same_Some k n (sym q ∙ l)) e;
}

module _ (p : Parts) (ix : List ℕ) (T : List ℕ) (P : Problem) (wf : WellFormed P) (es : P.strings ≡ p.s) (ec : length P.constraints ≡ p.c) (ln : length T ≡ width P) (bd : Words T)
    (n : Marked P ix) {U : List ℕ} {w : ℕ} where
  -- the table is on its way from T to what T settles to
  pub ready_pending : (from : Option ℕ) → ChildAt P T from → Readies p.s from T U true → Wakes p ix from w → Pending P T U w
  ready_pending None child r v = start-whole P wf T bd ln U p.s p.c w (sym es) (r.whole refl refl P (sym es) ln bd) ec (v.all refl)
  ready_pending (Some k) child r v = go (ltb k (64 * p.s)) refl
    where
      named : w ≡ word ix (position P.strings (owner P.strings k))
      named = subst (λ (s : ℕ). w ≡ word ix (position s (owner s k))) (sym es) (v.named k refl)

      go : (b : Bool) → ltb k (64 * p.s) ≡ b → Pending P T U w
      go true f =
          let h = ltb-true k (64 * p.s) f in
          start-text P wf T bd ln k child.1 w (touching_wakes P ix n k w named) (touching-inside P ix n k w named) U (k / 64) (omega arith)
          (owner-string P.strings k (omega arith)) (r.text refl k refl h P (sym es) ln)
      go false f =
          let h = ltb-false k (64 * p.s) f in
          rw (r.number refl k refl h) (start-number P wf T bd ln k child.1 w (touching_wakes P ix n k w named) (touching-inside P ix n k w named) (k - 64 * P.strings)
          (owner-number P.strings k (omega arith)))

-- ---- lengths

pub lengths-looked : {s : ℕ} {T : List ℕ} (all : Bool) → Looked T (λ x. 64 * x) 0 s all → Lengths s T all
lengths-looked true h = record { each = λ q x l. h x (omega arith) l; none = λ q. absurd (false≢true (sym q)) }
lengths-looked false h = record { each = λ q. absurd (false≢true q); none = λ q. (h.0, h.2, h.3) }
