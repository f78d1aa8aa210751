-- The words of the index that a caller lends: each is made of the constraints that name a variable and of its trimming; and a loop that compares them. Assumes
-- nothing.
use mathlib.Core.Path.{◌≡◌, refl, sym, ap, ap₂, subst, ◌∙◌}
use mathlib.Core.Logic.{◌⊎◌, inl, inr, ⊎_elim, ◌≢◌}
use mathlib.Core.Bool.{Bool, true, false, cond, false≢true}
use mathlib.Core.List.Memᴰ
use mathlib.Core.List.{List, [], ◌∷◌}
use Prim.Native.Nat.{ℕ, ◌+◌, ◌-◌, ◌*◌, ◌/◌, ◌%◌, ◌^◌, ◌≤◌, ◌<◌}
use native.Mathlib.Omega.{arith}
use lib.Bits.{bit_or, or_zero_r}
use lib.Dec.{eqb, ltb}
use lib.ListN.{length, get_or}
use lib.Seq.{ext_get_or}
use Rattle.std.proofs.lemmas.List.FromFn.{get_or-range_with_len, length-range_with_len}
use Rattle.std.specs.Prelude.{MatchBool}
use Rattle.std.specs.List.{AllWithin, HoldsAt, range_with_len}
use borrow.Author.Tests.{eqb-true, eq-eqb, ltb-true, ltb-false}
use Rattle.model.specs.Lists.{same}
use Rattle.model.specs.Words.{bit, word}
use Rattle.model.specs.Domains.{Variable, str, num}
use Rattle.model.specs.Constraints.{Problem, Constraint, always, variables}
use Rattle.model.specs.Solutions.{InRange}
use Rattle.model.specs.Operations.{step_at, step_count}
use Rattle.model.specs.StepIndex.{touching, word_from, index_of}
use Rattle.laws.specs.Inclusion.{In, Within}
use Rattle.laws.proofs.ListLaws.{same_refl, same_false}
use Rattle.laws.proofs.WordLaws.{of-or-bit, or-bit-left, or-bit-right, zero_bit, zero-within, within_antisym, pow_self, pow-only}
use Rattle.laws.proofs.DomainLaws.{str≢num}
use Rattle.laws.proofs.StepIndexLaws.{of-word_from, in_word_from, step_at-constraint, step_at_trimming, of-touching, in_touching, index-length, index-string, index_number}
use Rattle.format.specs.declared.problem.Problem as accepted
use Rattle.format.specs.Problems.{the_problem}
use Rattle.format.proofs.ContentLaws.{Counts, usable-counts}
use Rattle.index.specs.Index.{position, Index}

-- ---- one step alone

module _ (j h : ℕ) where
  pub step-inside : j / 64 ≡ h → 2 ^ (j % 64) ≡ word_from (64 * h) (j ∷ [])
  step-inside e = within_antisym (2 ^ (j % 64)) (word_from (64 * h) (j ∷ []))
      (λ b f.
      let q : b ≡ j % 64 = pow-only (j % 64) b f in
      let k : 64 * h + b ≡ j = omega arith in
      in_word_from (64 * h) (j ∷ []) b (omega arith) (Memᴰ.head k))
      (λ b f.
      let t = of-word_from (64 * h) (j ∷ []) b f in
      let l : b < 64 = t.0 in
      let k : 64 * h + b ≡ j = Memᴰ.eq_of_singleton t.1 in
      let q : j % 64 ≡ b = omega arith in
      ap (λ (n : ℕ). bit (2 ^ n) b) q ∙ pow_self b)

  pub step-outside : j / 64 ≢ h → 0 ≡ word_from (64 * h) (j ∷ [])
  step-outside n = within_antisym 0 (word_from (64 * h) (j ∷ [])) (zero-within (word_from (64 * h) (j ∷ [])))
      (λ b f.
      let t = of-word_from (64 * h) (j ∷ []) b f in
      let l : b < 64 = t.0 in
      let k : 64 * h + b ≡ j = Memᴰ.eq_of_singleton t.1 in
      let q : j / 64 ≡ h = omega arith in
      absurd (n q))

-- ---- the steps that touch a variable are the constraints that name it, and its trimming

module _ (P : Problem) (ix : List ℕ) (x : Index P ix) (few : length P.constraints ≤ 64) where
  abbrev c : ℕ
  c = length P.constraints

  constraints_touch : (v : Variable) → InRange P v → (h : ℕ)
      → Within (cond (eqb h 0) (word ix (position P.strings v)) 0) (word_from (64 * h) (touching P v))
  constraints_touch v r h b e = go (eqb h 0) refl e
    where
      go : (t : Bool) → eqb h 0 ≡ t → bit (cond t (word ix (position P.strings v)) 0) b ≡ true → bit (word_from (64 * h) (touching P v)) b ≡ true
      go true q f =
          let z : 64 * h + b ≡ b = omega (arith, eqb-true h 0 q) in
          let l : b < c = x.inside (position P.strings v) b f in
          let m : In v (variables (step_at P b)) = subst (λ (d : Constraint). In v (variables d)) (sym (step_at-constraint P b l)) (x.only b v r f) in
          let n : In b (touching P v) = in_touching P v b (omega arith) m in
          in_word_from (64 * h) (touching P v) b (omega arith) (subst (λ (j : ℕ). In j (touching P v)) (sym z) n)
      go false q f = absurd (false≢true (sym (zero_bit b) ∙ f))

  trimming_touches : (y : ℕ) → y < P.strings → (h : ℕ) → Within (word_from (64 * h) ((c + y) ∷ [])) (word_from (64 * h) (touching P (str y)))
  unfolding variables
  trimming_touches y l h b e =
      let t = of-word_from (64 * h) ((c + y) ∷ []) b e in
      let q : 64 * h + b ≡ c + y = Memᴰ.eq_of_singleton t.1 in
      let m : In (str y) (variables (step_at P (c + y))) = subst (λ (d : Constraint). In (str y) (variables d)) (sym (step_at_trimming P y)) (Memᴰ.head refl) in
      let n : In (c + y) (touching P (str y)) = in_touching P (str y) (c + y) (omega arith) m in
      in_word_from (64 * h) (touching P (str y)) b t.0 (subst (λ (j : ℕ). In j (touching P (str y))) (sym q) n)

  nothing_else : (v : Variable) (h b : ℕ) → bit (word_from (64 * h) (touching P v)) b ≡ true
      → (bit (cond (eqb h 0) (word ix (position P.strings v)) 0) b ≡ true) ⊎ ((y : ℕ) × (v ≡ str y) × (bit (word_from (64 * h) ((c + y) ∷ [])) b ≡ true))
  unfolding variables
  nothing_else v h b e = go (ltb (64 * h + b) c) refl
    where
      t : (b < 64) × In (64 * h + b) (touching P v)
      t = of-word_from (64 * h) (touching P v) b e

      u : (64 * h + b < step_count P) × In v (variables (step_at P (64 * h + b)))
      u = of-touching P v (64 * h + b) t.1

      go : (s : Bool) → ltb (64 * h + b) c ≡ s
          → (bit (cond (eqb h 0) (word ix (position P.strings v)) 0) b ≡ true) ⊎ ((y : ℕ) × (v ≡ str y) × (bit (word_from (64 * h) ((c + y) ∷ [])) b ≡ true))
      go true q =
          let l : 64 * h + b < c = ltb-true (64 * h + b) c q in
          let z : h ≡ 0 = omega arith in
          let k : 64 * h + b ≡ b = omega arith in
          let d : step_at P (64 * h + b) ≡ get_or P.constraints b (always 0) = ap (step_at P) k ∙ step_at-constraint P b (omega arith) in
          let m : In v (variables (get_or P.constraints b (always 0))) = subst (λ (d : Constraint). In v (variables d)) d u.1 in
          inl (ap (λ (s : Bool). bit (cond s (word ix (position P.strings v)) 0) b) (eq-eqb h 0 z) ∙ x.names b (omega arith) v m)
      go false q =
          let l : c ≤ 64 * h + b = ltb-false (64 * h + b) c q in
          let y : ℕ = 64 * h + b - c in
          let k : 64 * h + b ≡ c + y = omega arith in
          let d : step_at P (64 * h + b) ≡ always y = ap (step_at P) k ∙ step_at_trimming P y in
          let m : In v (str y ∷ []) = subst (λ (d : Constraint). In v (variables d)) d u.1 in
          inr (y, Memᴰ.eq_of_singleton m, in_word_from (64 * h) ((c + y) ∷ []) b t.0 (Memᴰ.head k))

  string-half : (y : ℕ) → y < P.strings → (h : ℕ)
      → bit_or (cond (eqb h 0) (word ix y) 0) (word_from (64 * h) ((c + y) ∷ [])) ≡ word_from (64 * h) (touching P (str y))
  unfolding position
  string-half y l h =
      let a : ℕ = cond (eqb h 0) (word ix y) 0 in
      let w : ℕ = word_from (64 * h) ((c + y) ∷ []) in
      within_antisym (bit_or a w) (word_from (64 * h) (touching P (str y)))
      (λ b e. ⊎_elim (λ f. constraints_touch (str y) l h b f) (λ f. trimming_touches y l h b f) (of-or-bit a w b e))
      (λ b e. ⊎_elim (λ f. or-bit-left a w b f)
      (λ f.
      let g : str y ≡ str f.0 = f.1 in
      let k : y ≡ f.0 = cc in
      or-bit-right a w b (subst (λ (z : ℕ). bit (word_from (64 * h) ((c + z) ∷ [])) b ≡ true) (sym k) f.2))
      (nothing_else (str y) h b e))

  number-half : (n : ℕ) → n < P.numbers → (h : ℕ) → bit_or (cond (eqb h 0) (word ix (P.strings + n)) 0) 0 ≡ word_from (64 * h) (touching P (num n))
  unfolding position
  number-half n l h =
      let a : ℕ = cond (eqb h 0) (word ix (P.strings + n)) 0 in
      or_zero_r a
      ∙ within_antisym a (word_from (64 * h) (touching P (num n))) (constraints_touch (num n) l h)
      (λ b e. ⊎_elim (λ f. f) (λ f. absurd (str≢num (sym f.1))) (nothing_else (num n) h b e))

  lent-half : (i : ℕ) → i < 2 * (P.strings + P.numbers)
      → bit_or (cond (eqb (i % 2) 0) (word ix (i / 2)) 0) (cond (ltb (i / 2) P.strings) (word_from (64 * (i % 2)) ((c + i / 2) ∷ [])) 0) ≡ word (index_of P) i
  lent-half i l = go (ltb (i / 2) P.strings) refl
    where
      go : (t : Bool) → ltb (i / 2) P.strings ≡ t
          → bit_or (cond (eqb (i % 2) 0) (word ix (i / 2)) 0) (cond t (word_from (64 * (i % 2)) ((c + i / 2) ∷ [])) 0) ≡ word (index_of P) i
      go true q =
          let k : i / 2 < P.strings = ltb-true (i / 2) P.strings q in
          let e : 2 * (i / 2) + i % 2 ≡ i = omega arith in
          string-half (i / 2) k (i % 2) ∙ sym (index-string P (i / 2) (i % 2) k (omega arith)) ∙ ap (word (index_of P)) e
      go false q =
          let k : P.strings ≤ i / 2 = ltb-false (i / 2) P.strings q in
          let n : ℕ = i / 2 - P.strings in
          let m : n < P.numbers = omega arith in
          let d : i / 2 ≡ P.strings + n = omega arith in
          let e : 2 * (P.strings + n) + i % 2 ≡ i = omega arith in
          ap (λ (v : ℕ). bit_or (cond (eqb (i % 2) 0) (word ix v) 0) 0) d ∙ number-half n m (i % 2)
          ∙ sym (index_number P n (i % 2) m (omega arith)) ∙ ap (word (index_of P)) e

-- where the two words of a variable stand
pub lent_at : (P : Problem) (v : Variable) → InRange P v → (h : ℕ) → h < 2 → word (index_of P) (2 * position P.strings v + h) ≡ word_from (64 * h) (touching P v)
unfolding position
lent_at P (str x) r h l = index-string P x h r l
lent_at P (num n) r h l = index_number P n h r l

-- ---- the index of a file

module _ (p : accepted.Problem) where
  counts : Counts p.file.now p.parts
  counts = usable-counts p.file.now p.parts p.usable

  pub lent_length : length (index_of (the_problem p)) ≡ 2 * (p.parts.s + p.parts.t)
  lent_length = omega (arith, index-length (the_problem p), counts.strings, counts.numbers)

  -- word i, where a is half of the constraints and b of the trimming
  pub lent-made : (ix : List ℕ) (i a b : ℕ) → i < 2 * (p.parts.s + p.parts.t) → a ≡ cond (eqb (i % 2) 0) (word ix (i / 2)) 0
      → b ≡ cond (ltb (i / 2) p.parts.s) (word_from (64 * (i % 2)) ((p.parts.c + i / 2) ∷ [])) 0
      → Index (the_problem p) ix → bit_or a b ≡ word (index_of (the_problem p)) i
  lent-made ix i a b l ea eb x =
      let P : Problem = the_problem p in
      let m : length P.constraints ≤ 64 = omega (arith, counts.constraints, p.usable.fits.constraints-most) in
      let k : i < 2 * (P.strings + P.numbers) = omega (arith, counts.strings, counts.numbers) in
      let f : ℕ → ℕ → ℕ = λ (s c : ℕ). cond (ltb (i / 2) s) (word_from (64 * (i % 2)) ((c + i / 2) ∷ [])) 0 in
      ap₂ bit_or ea (eb ∙ ap₂ f (sym counts.strings) (sym counts.constraints)) ∙ lent-half P ix x m i k

-- ---- whether two lists have the same words, by what `all` says over their indices

range-at : (n i : ℕ) → i < n → get_or (range_with_len 0 n) i 0 ≡ i
range-at n i h = let e : 0 + i ≡ i = omega arith in get_or-range_with_len 0 n i 0 h ∙ e

pub same_by : (I J : List ℕ) (r : Bool) → length I ≡ length J
    → MatchBool r (AllWithin (λ i. word I i ≡ word J i) (range_with_len 0 (length I)) 0 (length (range_with_len 0 (length I))))
    ((k : ℕ) × (k < length (range_with_len 0 (length I))) × HoldsAt (λ i. word I i ≢ word J i) (range_with_len 0 (length I)) k)
    → r ≡ same I J
same_by I J true e f =
    let alike : (i : ℕ) → i < length I → word I i ≡ word J i =
    λ i h. subst (λ (j : ℕ). word I j ≡ word J j) (range-at (length I) i h) (f i 0 (omega arith) (omega (arith, length-range_with_len 0 (length I)))) in
    sym (subst (λ (K : List ℕ). same I K ≡ true) (ext_get_or 0 I J e alike) (same_refl I))
same_by I J false e f =
    let h : f.0 < length I = omega (arith, f.1, length-range_with_len 0 (length I)) in
    let n : word I f.0 ≢ word J f.0 = subst (λ (j : ℕ). word I j ≢ word J j) (range-at (length I) f.0 h) (f.2 0) in
    sym (same_false I J (λ q. n (ap (λ (K : List ℕ). word K f.0) q)))
