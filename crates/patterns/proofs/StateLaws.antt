-- The state after a string holds just the letters that a reading of it may have just passed, and it is final just when the string is in the language.
-- Assumes nothing.
use mathlib.Core.Path.{◌≡◌, refl, sym, ap, ◌∙◌}
use mathlib.Core.Logic.{◌↔◌, ⊎_elim}
use mathlib.Core.Bool.{true, false}
use mathlib.Core.List.Memᴰ
use mathlib.Core.List.{List, [], ◌∷◌, ◌++◌, map, append-nil, append_assoc, cons≢nil}
use Prim.Native.Nat.{ℕ, ◌^◌, ◌≤◌, ◌<◌}
use native.Mathlib.Omega.{arith}
use lib.Dec.{eqb}
use borrow.Author.Tests.{eqb-true, eq-eqb}
use Rattle.model.specs.Lists.{select}
use Rattle.model.specs.Words.{bit, bits, union}
use Rattle.laws.specs.Inclusion.{In}
use Rattle.laws.proofs.ListLaws.{of-select, in_select, of-any, in_any}
use Rattle.laws.proofs.CollectLaws.{any_none}
use Rattle.laws.proofs.WordLaws.{bit-union, of-bits, in_bits, zero-within, within_antisym, pow_self, pow-only}
use Rattle.model.specs.Pattern.{Pattern, Language, JustPassed}
use Rattle.model.specs.PatternStates.{first, last, follow, start, passed, having, ahead, advance, state_after, final}
use Rattle.patterns.proofs.Splits.{zero-none}
use Rattle.patterns.proofs.Places.{Spans}
use Rattle.patterns.proofs.LetterLaws.{passed_nonempty, passed-inside, of-empty, in_empty, of-ended, in_ended, of-next, in_one, in_next}

-- a place is in the union of a family of sets just when it is in one of them
pub of_family : (f : ℕ → ℕ) (xs : List ℕ) (q : ℕ) → bit (union (map f xs)) q ≡ true → (p : ℕ) × In p xs × (bit (f p) q ≡ true)
of_family f xs q h =
    let t = of-any (λ w. bit w q) (map f xs) (sym (bit-union (map f xs) q) ∙ h) in
    let m = Memᴰ.of_map f xs t.1 in
    (m.0, m.1, rw m.2 t.2)

pub in_family : (f : ℕ → ℕ) (xs : List ℕ) (q p : ℕ) → In p xs → bit (f p) q ≡ true → bit (union (map f xs)) q ≡ true
in_family f xs q p m h = bit-union (map f xs) q ∙ in_any (λ w. bit w q) (Memᴰ.map f m) h

-- a place is among those that have the symbol just when it is in the set, lies before 64, and its letter has the symbol
pub of-having : (symbol : ℕ → ℕ) (a w q : ℕ) → bit (having symbol a w) q ≡ true → (bit w q ≡ true) × (q < 64) × (symbol q ≡ a)
unfolding having
of-having symbol a w q h =
    let t = of_family (λ p. 2 ^ p) (select (λ p. eqb (symbol p) a) (bits w)) q h in
    let k = pow-only t.0 q t.2 in
    let m = of-select (λ p. eqb (symbol p) a) (bits w) t.1 in
    let b = of-bits w m.0 in
    (rw k b.0, omega arith, rw k (eqb-true _ _ m.1))

pub in_having : (symbol : ℕ → ℕ) (a w q : ℕ) → bit w q ≡ true → q < 64 → symbol q ≡ a → bit (having symbol a w) q ≡ true
unfolding having
in_having symbol a w q h l e =
    in_family (λ p. 2 ^ p) (select (λ p. eqb (symbol p) a) (bits w)) q q (in_select (λ p. eqb (symbol p) a) (in_bits w q h l) (eq-eqb _ _ e)) (pow_self q)

-- ---- the empty set

module _ (symbol : ℕ → ℕ) (e : Pattern) where
  -- a symbol more leads from it to itself
  pub empty-stays : (a : ℕ) → advance symbol e (passed 0) a ≡ passed 0
  unfolding advance ahead
  empty-stays a = ap passed (within_antisym _ 0
      (λ q h. let m = of_family (follow e) (bits 0) q (of-having symbol a _ q h).0 in zero-none m.0 (of-bits 0 m.1).0)
      (zero-within _))

  -- "the empty set, from which nothing is accepted": no string leads from it to a final state
  pub empty_refuses : (w : List ℕ) → final e (state_after symbol e (passed 0) w) ≡ false
  unfolding state_after final
  empty_refuses [] = any_none (bit (last e)) (bits 0) (λ p m. zero-none p (of-bits 0 m).0)
  empty_refuses (a ∷ w) = rw (empty-stays a) (empty_refuses w)

-- ---- the state after a string

module _ (symbol : ℕ → ℕ) (e : Pattern) (lo hi : ℕ) (spans : Spans e lo hi) (short : hi ≤ 64) where
  -- a letter that may have been just passed lies before place 64
  passed-below : (w : List ℕ) {p : ℕ} → JustPassed symbol e w p → p < 64
  passed-below w h = let i = passed-inside symbol e w spans h in omega arith

  -- the set holds just the letters that a reading of the string may have just passed
  abbrev Holds : ℕ → List ℕ → Type 0
  Holds s w = (p : ℕ) → (bit s p ≡ true) ↔ JustPassed symbol e w p

  -- so does the set after one symbol
  holds-one : (a : ℕ) → Holds (having symbol a (first e)) (a ∷ [])
  holds-one a p = (
    λ h. let k = of-having symbol a (first e) p h in rw k.2 at (in_one symbol e p k.0),
    λ h. ⊎_elim
        (λ k. in_having symbol a (first e) p k.1 (passed-below _ h) k.2)
        (λ k. absurd (passed_nonempty symbol e k.0 k.1))
        (of-next symbol e [] a p h),
  )

  -- and the set after one symbol more
  holds-next : (w : List ℕ) (a b s : ℕ) → Holds s (a ∷ w) → Holds (having symbol b (union (map (follow e) (bits s)))) (a ∷ (w ++ (b ∷ [])))
  holds-next w a b s r p = (
    λ h.
        let k = of-having symbol b (union (map (follow e) (bits s))) p h in
        let m = of_family (follow e) (bits s) p k.0 in
        rw k.2 at (in_next symbol e lo hi spans (a ∷ w) m.0 p ((r m.0).0 (of-bits s m.1).0) m.2),
    λ h. ⊎_elim
        (λ k. absurd (cons≢nil k.0))
        (λ k.
        let u = in_family (follow e) (bits s) p k.0 (in_bits s k.0 ((r k.0).1 k.1) (passed-below _ k.1)) k.2 in
        in_having symbol b (union (map (follow e) (bits s))) p u (passed-below _ h) k.3)
        (of-next symbol e (a ∷ w) b p h),
  )

  -- and the set after any more symbols
  holds-run : (w u : List ℕ) (a s : ℕ) → Holds s (a ∷ u) → (t : ℕ) × (state_after symbol e (passed s) w ≡ passed t) × Holds t (a ∷ (u ++ w))
  unfolding state_after advance ahead
  holds-run [] u a s r = (s, refl, rw append-nil r)
  holds-run (b ∷ w) u a s r =
      let t = holds-run w (u ++ (b ∷ [])) a (having symbol b (union (map (follow e) (bits s)))) (holds-next u a b s r) in
      (t.0, t.1, rw append_assoc at t.2)

  -- the state after a string that is not empty holds just the letters that a reading of the string may have just passed
  pub state-passed : (a : ℕ) (w : List ℕ)
      → (s : ℕ) × (state_after symbol e start (a ∷ w) ≡ passed s) × ((p : ℕ) → (bit s p ≡ true) ↔ JustPassed symbol e (a ∷ w) p)
  unfolding state_after advance ahead
  state-passed a w = holds-run w [] a (having symbol a (first e)) (holds-one a)

  -- such a set is final just when the string is in the language
  holds-final : (a s : ℕ) (w : List ℕ) → Holds s (a ∷ w) → (final e (passed s) ≡ true) ↔ Language symbol e (a ∷ w)
  unfolding final
  holds-final a s w r = (
    λ h. let t = of-any (bit (last e)) (bits s) h in in_ended symbol e lo hi spans (a ∷ w) t.0 ((r t.0).0 (of-bits s t.1).0) t.2,
    λ h. ⊎_elim
        (λ k. absurd (cons≢nil k.0))
        (λ k. in_any (bit (last e)) (in_bits s k.0 ((r k.0).1 k.1) (passed-below _ k.1)) k.2)
        (of-ended symbol e (a ∷ w) h),
  )

  -- from the start, just the strings of the language end in a final state
  pub accepts-language : (w : List ℕ) → (final e (state_after symbol e start w) ≡ true) ↔ Language symbol e w
  unfolding state_after final
  accepts-language [] = (in_empty symbol e, of-empty symbol e)
  accepts-language (a ∷ w) = let t = state-passed a w in rw t.1 (holds-final a t.0 w t.2)
