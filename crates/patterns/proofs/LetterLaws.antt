-- The letters that a reading of a string may have just passed, by the pattern's structure, each fact in both directions: a string is in the language just when
-- it is empty and the pattern nullable, or its reading may have just passed a last letter; the first symbol passes a first letter, each one more a letter that
-- follows the one before. Assumes nothing.
use mathlib.Core.Path.{◌≡◌, refl, sym}
use mathlib.Core.Logic.{◌⊎◌, inl, inr, ⊎_elim}
use mathlib.Core.Bool.{true, false≢true, or-true}
use mathlib.Core.List.{List, [], ◌∷◌, ◌++◌, append-nil, append_assoc, append-eq-nil_iff, cons≢nil, nil≢cons}
use Prim.Native.Nat.{ℕ, ◌≤◌, ◌<◌}
use native.Mathlib.Omega.{arith}
use lib.Bits.{bit_or}
use Rattle.model.specs.Words.{bit}
use Rattle.laws.proofs.ListLaws.{and_true, true_and, or_true as either_true}
use Rattle.laws.proofs.WordLaws.{or-bit-left, or-bit-right, pow_self, pow-only}
use Rattle.model.specs.Pattern.{Pattern, empty, letter, either, both, many, Repeated, stop, more, Language, JustPassed}
use Rattle.model.specs.PatternStates.{when, nullable, first, last, follow}
use Rattle.patterns.proofs.Splits.{before-nil, append_right, repeated-end, zero-none, of-when, in_when}
use Rattle.patterns.proofs.Places.{Spans, join_inside, left-inside, right-inside, last-inside, follow-from}

-- no place lies on both sides of mid
apart : {B : Type 0} {lo mid hi q : ℕ} → (lo ≤ q) × (q < mid) → (mid ≤ q) × (q < hi) → B
apart i j = absurd (omega arith)

module _ (symbol : ℕ → ℕ) where
  -- ---- the letter just passed

  -- before the first symbol no letter was passed
  pub passed_nonempty : (e : Pattern) (p : ℕ) → JustPassed symbol e [] p → ⊥
  unfolding JustPassed
  passed_nonempty empty p h = h
  passed_nonempty (letter q) p h = nil≢cons h.1
  passed_nonempty (either e f) p (inl h) = passed_nonempty e p h
  passed_nonempty (either e f) p (inr h) = passed_nonempty f p h
  passed_nonempty (both e f) p (inl h) = passed_nonempty e p h
  passed_nonempty (both e f) p (inr h) = passed_nonempty f p (rw ((append-eq-nil_iff {p = h.0}).0 (sym h.2)).1 at h.4)
  passed_nonempty (many e) p h = passed_nonempty e p (rw ((append-eq-nil_iff {p = h.0}).0 (sym h.2)).1 at h.4)

  -- where a letter of the second part was just passed, the last symbol is that part's
  passed-split : (e : Pattern) (a p : ℕ) (w u v : List ℕ) → w ++ (a ∷ []) ≡ u ++ v → JustPassed symbol e v p
      → (t : List ℕ) × (w ≡ u ++ t) × JustPassed symbol e (t ++ (a ∷ [])) p
  passed-split e a p w [] v k h = (w, refl, rw k h)
  passed-split e a p [] (b ∷ u) v k h = absurd (passed_nonempty e p (rw ((append-eq-nil_iff {p = u} {q = v}).0 (cc)).1 at h))
  passed-split e a p (c ∷ w) (b ∷ u) v k h = let t = passed-split e a p w u v (cc) h in (t.0, cc, t.2)

  -- a letter that may have been just passed is the pattern's
  pub passed-inside : (e : Pattern) (w : List ℕ) {lo hi p : ℕ} → Spans e lo hi → JustPassed symbol e w p → (lo ≤ p) × (p < hi)
  unfolding Spans JustPassed
  passed-inside empty w s h = absurd h
  passed-inside (letter q) w s h = let k = h.0 in omega arith
  passed-inside (either e f) w s (inl h) = left-inside f s.2 (passed-inside e w s.1 h)
  passed-inside (either e f) w s (inr h) = right-inside e s.1 (passed-inside f w s.2 h)
  passed-inside (both e f) w s (inl h) = left-inside f s.2 (passed-inside e w s.1 h)
  passed-inside (both e f) w s (inr h) = right-inside e s.1 (passed-inside f _ s.2 h.4)
  passed-inside (many e) w s h = passed-inside e _ s h.4

  -- ---- a string of the language

  -- the string is empty and the pattern nullable, or a reading of the string may have just passed a last letter
  abbrev Ended : Pattern → List ℕ → Type 0
  Ended e w = ((w ≡ []) × (nullable e ≡ true)) ⊎ ((p : ℕ) × JustPassed symbol e w p × (bit (last e) p ≡ true))

  -- a string of the language ends so
  pub of-ended : (e : Pattern) (w : List ℕ) → Language symbol e w → Ended e w
  unfolding Language JustPassed nullable last
  of-ended empty w h = inl (h, refl)
  of-ended (letter p) w h = inr (p, (refl, h), pow_self p)
  of-ended (either e f) w (inl h) = ⊎_elim
      (λ t. inl (t.0, rw t.1))
      (λ t. inr (t.0, inl t.1, or-bit-left _ _ _ t.2))
      (of-ended e w h)
  of-ended (either e f) w (inr h) = ⊎_elim
      (λ t. inl (t.0, rw t.1 (or-true (nullable e))))
      (λ t. inr (t.0, inr t.1, or-bit-right (last e) _ _ t.2))
      (of-ended f w h)
  of-ended (both e f) w h = ⊎_elim
      (λ t. ⊎_elim
      (λ i. inl (i.0, true_and i.1 t.1))
      (λ i. inr (i.0, inl i.1, or-bit-left _ _ _ (in_when _ _ _ t.1 i.2)))
      (of-ended e w (before-nil (Language symbol e) h.0 h.1 h.2 t.0 h.3)))
      (λ t. inr (t.0, inr (h.0, h.1, h.2, h.3, t.1), or-bit-right (when (nullable f) (last e)) _ _ t.2))
      (of-ended f h.1 h.4)
  of-ended (many e) w (stop k) = inl (k, refl)
  of-ended (many e) w (more u v k h m) = ⊎_elim
      (λ t. ⊎_elim
      (λ i. inl (i.0, refl))
      (λ i. inr (i.0, ([], w, refl, stop refl, i.1), i.2))
      (of-ended e w (before-nil (Language symbol e) u v k t.0 h)))
      (λ t.
      let g = t.1 in
      inr (t.0, (u ++ g.0, g.1, cc (append_assoc u g.0 g.1), more u g.0 refl h g.3, g.4), t.2))
      (of-ended (many e) v m)

  -- the empty string is in the language just when the pattern is nullable
  pub of-empty : (e : Pattern) → Language symbol e [] → nullable e ≡ true
  of-empty e h = ⊎_elim (λ t. t.1) (λ t. absurd (passed_nonempty e t.0 t.1)) (of-ended e [] h)

  pub in_empty : (e : Pattern) → nullable e ≡ true → Language symbol e []
  unfolding Language nullable
  in_empty empty h = refl
  in_empty (letter p) h = absurd (false≢true h)
  in_empty (either e f) h = ⊎_elim (λ k. inl (in_empty e k)) (λ k. inr (in_empty f k)) (either_true (nullable e) (nullable f) h)
  in_empty (both e f) h = let k = and_true (nullable e) (nullable f) h in ([], [], refl, in_empty e k.0, in_empty f k.1)
  in_empty (many e) h = stop refl

  -- a string whose reading may have just passed a last letter is in the language
  pub in_ended : (e : Pattern) (lo hi : ℕ) → Spans e lo hi → (w : List ℕ) (p : ℕ) → JustPassed symbol e w p → bit (last e) p ≡ true → Language symbol e w
  unfolding Spans Language JustPassed last
  in_ended empty lo hi s w p h l = absurd h
  in_ended (letter q) lo hi s w p h l = h.1
  in_ended (either e f) lo hi s w p (inl h) l = join_inside _ _ _ l
      (λ k. inl (in_ended e _ _ s.1 w p h k))
      (λ k. apart (passed-inside e w s.1 h) (last-inside f s.2 k))
  in_ended (either e f) lo hi s w p (inr h) l = join_inside _ _ _ l
      (λ k. apart (last-inside e s.1 k) (passed-inside f w s.2 h))
      (λ k. inr (in_ended f _ _ s.2 w p h k))
  in_ended (both e f) lo hi s w p (inl h) l = join_inside _ _ _ l
      (λ k. let t = of-when (nullable f) _ p k in (w, [], sym (append-nil w), in_ended e _ _ s.1 w p h t.1, in_empty f t.0))
      (λ k. apart (passed-inside e w s.1 h) (last-inside f s.2 k))
  in_ended (both e f) lo hi s w p (inr h) l = join_inside _ _ _ l
      (λ k. apart (last-inside e s.1 (of-when (nullable f) _ p k).1) (passed-inside f _ s.2 h.4))
      (λ k. (h.0, h.1, h.2, h.3, in_ended f _ _ s.2 h.1 p h.4 k))
  in_ended (many e) lo hi s w p h l = repeated-end h.1 h.2 h.3 (in_ended e _ _ s h.1 p h.4 l)

  -- ---- one symbol more

  -- the letter at p has the symbol a and is a first one, where the string is empty, or follows one that a reading of the string may have just passed
  abbrev Next : Pattern → List ℕ → ℕ → ℕ → Type 0
  Next e w a p = ((w ≡ []) × (bit (first e) p ≡ true) × (symbol p ≡ a)) ⊎ ((q : ℕ) × JustPassed symbol e w q × (bit (follow e q) p ≡ true) × (symbol p ≡ a))

  -- what one symbol more passes is such a letter
  pub of-next : (e : Pattern) (w : List ℕ) (a p : ℕ) → JustPassed symbol e (w ++ (a ∷ [])) p → Next e w a p
  unfolding Language JustPassed last first follow
  of-next empty w a p h = absurd h
  of-next (letter q) [] a p h = inl (refl, rw h.0 (pow_self q), cc)
  of-next (letter q) (b ∷ w) a p h = absurd (cons≢nil {x = a} {xs = []} ((append-eq-nil_iff {p = w}).0 (cc)).1)
  of-next (either e f) w a p (inl h) = ⊎_elim
      (λ k. inl (k.0, or-bit-left _ _ p k.1, k.2))
      (λ k. inr (k.0, inl k.1, or-bit-left _ _ p k.2, k.3))
      (of-next e w a p h)
  of-next (either e f) w a p (inr h) = ⊎_elim
      (λ k. inl (k.0, or-bit-right (first e) _ p k.1, k.2))
      (λ k. inr (k.0, inr k.1, or-bit-right (follow e k.0) _ p k.2, k.3))
      (of-next f w a p h)
  of-next (both e f) w a p (inl h) = ⊎_elim
      (λ k. inl (k.0, or-bit-left _ _ p k.1, k.2))
      (λ k. inr (k.0, inl k.1, or-bit-left _ _ p (or-bit-left _ _ p k.2), k.3))
      (of-next e w a p h)
  of-next (both e f) w a p (inr h) =
      let s = passed-split f a p w h.0 h.1 h.2 h.4 in
      ⊎_elim
      (λ k. ⊎_elim
      (λ i. inl (i.0, or-bit-right (first e) _ p (in_when _ _ p i.1 k.1), k.2))
      (λ i. inr (i.0, inl i.1, or-bit-right (bit_or (follow e i.0) (follow f i.0)) _ p (in_when _ _ p i.2 k.1), k.2))
      (of-ended e w (before-nil (Language symbol e) h.0 s.0 s.1 k.0 h.3)))
      (λ k. inr (k.0, inr (h.0, s.0, s.1, h.3, k.1), or-bit-left _ _ p (or-bit-right (follow e k.0) _ p k.2), k.3))
      (of-next f s.0 a p s.2)
  of-next (many e) w a p h =
      let s = passed-split e a p w h.0 h.1 h.2 h.4 in
      ⊎_elim
      (λ k. ⊎_elim
      (λ i. inl (i.0, k.1, k.2))
      (λ i. inr (i.0, i.1, or-bit-right (follow e i.0) _ p (in_when _ _ p i.2 k.1), k.2))
      (of-ended (many e) w (before-nil (Repeated (Language symbol e)) h.0 s.0 s.1 k.0 h.3)))
      (λ k. inr (k.0, (h.0, s.0, s.1, h.3, k.1), or-bit-left _ _ p k.2, k.3))
      (of-next e s.0 a p s.2)

  -- the symbol of a first letter passes it
  pub in_one : (e : Pattern) (p : ℕ) → bit (first e) p ≡ true → JustPassed symbol e (symbol p ∷ []) p
  unfolding JustPassed first
  in_one empty p h = zero-none p h
  in_one (letter q) p h = let k = pow-only q p h in (k, cc)
  in_one (either e f) p h = join_inside _ _ _ h (λ k. inl (in_one e p k)) (λ k. inr (in_one f p k))
  in_one (both e f) p h = join_inside _ _ _ h
      (λ k. inl (in_one e p k))
      (λ k. let t = of-when (nullable e) _ p k in inr ([], symbol p ∷ [], refl, in_empty e t.0, in_one f p t.1))
  in_one (many e) p h = ([], symbol p ∷ [], refl, stop refl, in_one e p h)

  -- after a letter the symbol of one that follows it passes that one
  pub in_next : (e : Pattern) (lo hi : ℕ) → Spans e lo hi → (w : List ℕ) (p q : ℕ) → JustPassed symbol e w p → bit (follow e p) q ≡ true
      → JustPassed symbol e (w ++ (symbol q ∷ [])) q
  unfolding Spans Language JustPassed last follow
  in_next empty lo hi s w p q h l = absurd h
  in_next (letter o) lo hi s w p q h l = zero-none q l
  in_next (either e f) lo hi s w p q (inl h) l = join_inside _ _ _ l
      (λ k. inl (in_next e _ _ s.1 w p q h k))
      (λ k. apart (passed-inside e w s.1 h) (follow-from f q s.2 k))
  in_next (either e f) lo hi s w p q (inr h) l = join_inside _ _ _ l
      (λ k. apart (follow-from e q s.1 k) (passed-inside f w s.2 h))
      (λ k. inr (in_next f _ _ s.2 w p q h k))
  in_next (both e f) lo hi s w p q (inl h) l = join_inside _ _ _ l
      (λ l'. join_inside _ _ _ l'
      (λ k. inl (in_next e _ _ s.1 w p q h k))
      (λ k. apart (passed-inside e w s.1 h) (follow-from f q s.2 k)))
      (λ k.
      let t = of-when (bit (last e) p) _ q k in
      inr (w, symbol q ∷ [], refl, in_ended e _ _ s.1 w p h t.0, in_one f q t.1))
  in_next (both e f) lo hi s w p q (inr h) l = join_inside _ _ _ l
      (λ l'. join_inside _ _ _ l'
      (λ k. apart (follow-from e q s.1 k) (passed-inside f _ s.2 h.4))
      (λ k. inr (h.0, h.1 ++ (symbol q ∷ []), append_right h.0 h.1 _ h.2, h.3, in_next f _ _ s.2 h.1 p q h.4 k)))
      (λ k. apart (last-inside e s.1 (of-when _ _ q k).0) (passed-inside f _ s.2 h.4))
  in_next (many e) lo hi s w p q h l = join_inside _ _ _ l
      (λ k. (h.0, h.1 ++ (symbol q ∷ []), append_right h.0 h.1 _ h.2, h.3, in_next e _ _ s h.1 p q h.4 k))
      (λ k.
      let t = of-when (bit (last e) p) _ q k in
      (w, symbol q ∷ [], refl, in_ended (many e) lo hi s w p h t.0, in_one e q t.1))
