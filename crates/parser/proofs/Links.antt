-- Letters that follow letters, in the lent array: the letters of a set are taken one after the other, the lowest first. Assumes nothing.
use mathlib.Core.Path.{◌≡◌, refl, sym, ap, ◌∙◌}
use mathlib.Core.Bool.{Bool, true, false, not, ◌&&◌, false≢true}
use mathlib.Core.List.{List}
use Prim.Native.Nat.{ℕ, ◌-◌, ◌^◌, ◌<◌}
use native.Mathlib.Omega.{arith}
use lib.Bits.{bit_or, or_zero_r}
use lib.Dec.{eqb}
use lib.ListN.{length, get_or, set, length-set}
use lib.Seq.{get_or-set_same, get_or-set_other}
use borrow.Author.Tests.{eqb-true, eqb-false, eq-eqb}
use Rattle.model.specs.Words.{bit}
use Rattle.model.specs.PatternStates.{when}
use Rattle.laws.proofs.ListLaws.{and_true}
use Rattle.laws.proofs.WordLaws.{zero_bit, bit-sub}
use Rattle.words.specs.Ends.{Lowest}
use Rattle.parser.specs.Reads.{Linked}

-- the letters of `rest` are still to come, all others of `lasts` are done
pub record Linking (F : List ℕ) (lasts firsts rest : ℕ) (G : List ℕ) : Type 0 where
  pub size : length G ≡ length F
  pub inside : (p : ℕ) → bit rest p ≡ true → bit lasts p ≡ true
  pub kept : (p : ℕ) → bit rest p ≡ true → get_or G p 0 ≡ get_or F p 0
  pub done : (p : ℕ) → p < 64 → bit rest p ≡ false → get_or G p 0 ≡ bit_or (get_or F p 0) (when (bit lasts p) firsts)

module _ (F : List ℕ) (lasts firsts : ℕ) where
  pub link_start : Linking F lasts firsts lasts F
  unfolding when
  link_start = record {
    size = refl;
    inside = λ p h. h;
    kept = λ p h. refl;
    done = λ p l h. rw h (sym (or_zero_r (get_or F p 0)));
  }

  module _ (rest : ℕ) (G : List ℕ) (linking : Linking F lasts firsts rest G) where
    pub link-end : rest ≡ 0 → Linked F lasts firsts G
    link-end e = record { size = linking.size; each = λ p l. linking.done p l (ap (λ (w : ℕ). bit w p) e ∙ zero_bit p) }

    pub link-step : length F ≡ 64 → (q : ℕ) → Lowest rest q → Linking F lasts firsts (rest - 2 ^ q) (set G q (bit_or (get_or G q 0) firsts))
    unfolding when
    link-step long q low =
        record {
          size = length-set G q (bit_or (get_or G q 0) firsts) ∙ linking.size;
          inside = λ p h. linking.inside p (other p h).0;
          kept = λ p h. get_or-set_other G q p (bit_or (get_or G q 0) firsts) 0 (other p h).1 ∙ linking.kept p (other p h).0;
          done = λ p l h. go p l (eqb q p) refl (sym (left p) ∙ h);
        }
      where
        left : (p : ℕ) → bit (rest - 2 ^ q) p ≡ (bit rest p && not (eqb q p))
        left p = bit-sub rest q p low.here

        -- what is left was there, and is another letter
        other : (p : ℕ) → bit (rest - 2 ^ q) p ≡ true → (bit rest p ≡ true) × (p ≡ q → ⊥)
        other p h =
            let t = and_true (bit rest p) (not (eqb q p)) (sym (left p) ∙ h) in
            (t.0, λ k. false≢true (sym (ap not (eq-eqb q p (sym k))) ∙ t.1))

        gone : (a : Bool) → (a && true) ≡ false → a ≡ false
        gone true k = k
        gone false k = refl

        go : (p : ℕ) → p < 64 → (t : Bool) → eqb q p ≡ t → (bit rest p && not t) ≡ false
            → get_or (set G q (bit_or (get_or G q 0) firsts)) p 0 ≡ bit_or (get_or F p 0) (when (bit lasts p) firsts)
        go p l true k h =
            let same = eqb-true q p k in
            let n = linking.size in
            let small = low.small in
            let there : bit lasts p ≡ true = ap (bit lasts) (sym same) ∙ linking.inside q low.here in
            ap (λ (x : ℕ). get_or (set G q (bit_or (get_or G q 0) firsts)) x 0) (sym same)
            ∙ get_or-set_same G q (bit_or (get_or G q 0) firsts) 0 (omega arith)
            ∙ ap (λ (x : ℕ). bit_or x firsts) (linking.kept q low.here ∙ ap (λ (x : ℕ). get_or F x 0) same)
            ∙ ap (λ (t : Bool). bit_or (get_or F p 0) (when t firsts)) (sym there)
        go p l false k h = let n = eqb-false q p k in get_or-set_other G q p (bit_or (get_or G q 0) firsts) 0 (λ x. n (sym x)) ∙ linking.done p l (gone (bit rest p) h)
