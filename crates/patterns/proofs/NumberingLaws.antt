-- Numbering by first reaching: where no more states than the limit are found, every successor of a state has a number. Assumes nothing.
use mathlib.Core.Path.{◌≡◌, refl, sym, ap, subst, ◌∙◌}
use mathlib.Core.Logic.{⊎_elim}
use mathlib.Core.Bool.{Bool, true, false, cond, false≢true}
use mathlib.Core.List.Memᴰ
use mathlib.Core.List.{List, [], ◌∷◌, ◌++◌, append_assoc, append-nil}
use Prim.Native.Nat.{ℕ, zero, suc, ◌+◌, ◌≤◌, ◌<◌}
use native.Mathlib.Omega.{arith}
use native.Mathlib.Nat.{le_of_suc-le-suc, eq-or-lt_of_le}
use lib.Dec.{ltb}
use lib.ListN.{length, get_or, get_or-append}
use borrow.Author.Tests.{ltb-true, ltb-false}
use Rattle.model.specs.Lists.{any}
use Rattle.laws.specs.Inclusion.{In}
use Rattle.laws.proofs.ListLaws.{of-any}
use Rattle.model.specs.Numbering.{number_in, reach, reach_all, explore}

-- the second list is the first with more at its end
abbrev pub Extends : {A : Type 0} → List A → List A → Type 0
Extends {A} Q R = (more : List A) × (R ≡ Q ++ more)

pub extends_trans : {A : Type 0} (P Q R : List A) → Extends P Q → Extends Q R → Extends P R
extends_trans P Q R a b = (a.0 ++ b.0, b.1 ∙ ap (λ l. l ++ b.0) a.1 ∙ append_assoc P a.0 b.0)

module _ {A : Type 0} (same : A → A → Bool) (sound : (x y : A) → same x y ≡ true → x ≡ y) (whole : (x : A) → same x x ≡ true) where
  -- the number of a state of the list leads back to it
  pub number-in : (Q : List A) (x d : A) → In x Q → (number_in same Q x < length Q) × (get_or Q (number_in same Q x) d ≡ x)
  unfolding number_in
  number-in [] x d m = elim m [ ]
  number-in (y ∷ Q) x d m = go (same x y) refl m (λ k. number-in Q x d k)
    where
      go : (t : Bool) → same x y ≡ t → In x (y ∷ Q) → (In x Q → (number_in same Q x < length Q) × (get_or Q (number_in same Q x) d ≡ x))
          → (cond t 0 (suc (number_in same Q x)) < length (y ∷ Q)) × (get_or (y ∷ Q) (cond t 0 (suc (number_in same Q x))) d ≡ x)
      go true e k r = (omega arith, sym (sound x y e))
      go false e (Memᴰ.head q) r = absurd (false≢true (sym e ∙ ap (same x) (sym q) ∙ whole x))
      go false e (Memᴰ.tail k) r = let t = r k in let l = t.0 in (omega arith, t.1)

  pub reach_extends : (Q : List A) (x : A) → Extends Q (reach same Q x)
  unfolding reach
  reach_extends Q x = go (any (same x) Q)
    where
      go : (t : Bool) → Extends Q (cond t Q (Q ++ (x ∷ [])))
      go true = ([], sym (append-nil Q))
      go false = (x ∷ [], refl)

  reach_in : (Q : List A) (x : A) → In x (reach same Q x)
  unfolding reach
  reach_in Q x = go (any (same x) Q) refl
    where
      go : (t : Bool) → any (same x) Q ≡ t → In x (cond t Q (Q ++ (x ∷ [])))
      go true e = let m = of-any (same x) Q e in subst (λ (y : A). In y Q) (sym (sound x m.0 m.2)) m.1
      go false e = Memᴰ.append_right Q (Memᴰ.head refl)

  pub reach_all_extends : (Q xs : List A) → Extends Q (reach_all same Q xs)
  unfolding reach_all
  reach_all_extends Q [] = ([], sym (append-nil Q))
  reach_all_extends Q (x ∷ xs) = extends_trans Q (reach same Q x) (reach_all same (reach same Q x) xs) (reach_extends Q x) (reach_all_extends (reach same Q x) xs)

  -- what a longer list keeps
  extends_in : (Q R : List A) (y : A) → Extends Q R → In y Q → In y R
  extends_in Q R y k m = subst (λ (l : List A). In y l) (sym k.1) (Memᴰ.append_left k.0 m)

  reach_all_in : (Q xs : List A) (y : A) → In y xs → In y (reach_all same Q xs)
  unfolding reach_all
  reach_all_in Q [] y x' = elim x' [ ]
  reach_all_in Q (x ∷ xs) y (Memᴰ.head q) =
      extends_in (reach same Q x) _ y (reach_all_extends (reach same Q x) xs) (subst (λ (z : A). In z (reach same Q x)) (sym q) (reach_in Q x))
  reach_all_in Q (x ∷ xs) y (Memᴰ.tail m) = reach_all_in (reach same Q x) xs y m

  module _ (successors : A → List A) (start : A) where
    pub explore_extends : (n i : ℕ) (Q : List A) → Extends Q (explore same successors start n i Q)
    unfolding explore
    explore_extends zero i Q = ([], sym (append-nil Q))
    explore_extends (suc n) i Q = go (ltb i (length Q)) (explore_extends n (suc i) (reach_all same Q (successors (get_or Q i start))))
      where
        go : (t : Bool)
            → Extends (reach_all same Q (successors (get_or Q i start))) (explore same successors start n (suc i) (reach_all same Q (successors (get_or Q i start))))
            → Extends Q (cond t (explore same successors start n (suc i) (reach_all same Q (successors (get_or Q i start)))) Q)
        go true k = extends_trans Q _ _ (reach_all_extends Q (successors (get_or Q i start))) k
        go false k = ([], sym (append-nil Q))

    -- the states before number i have their successors in the list
    abbrev pub Done : ℕ → List A → Type 0
    Done i Q = (j : ℕ) → j < i → j < length Q → (y : A) → In y (successors (get_or Q j start)) → In y Q

    done-step : (i : ℕ) (Q : List A) → i < length Q → Done i Q → Done (suc i) (reach_all same Q (successors (get_or Q i start)))
    done-step i Q l d j h k y m =
        let x = reach_all_extends Q (successors (get_or Q i start)) in
        ⊎_elim
        (λ e. reach_all_in Q (successors (get_or Q i start)) y (subst (λ (t : A). In y (successors t)) (old (omega arith) ∙ ap (λ (t : ℕ). get_or Q t start) e) m))
        (λ g. extends_in Q _ y x (d j g (omega arith) y (subst (λ (t : A). In y (successors t)) (old (omega arith)) m)))
        (eq-or-lt_of_le (le_of_suc-le-suc h))
      where
        old : j < length Q → get_or (reach_all same Q (successors (get_or Q i start))) j start ≡ get_or Q j start
        old g = let x = reach_all_extends Q (successors (get_or Q i start)) in ap (λ (R : List A). get_or R j start) x.1 ∙ get_or-append Q x.0 start j g

    pub explore-done : (n i : ℕ) (Q : List A) → Done i Q → length (explore same successors start n i Q) ≤ n + i
        → Done (length (explore same successors start n i Q)) (explore same successors start n i Q)
    unfolding explore
    explore-done zero i Q d = λ h j k l y m. d j (omega arith) l y m
    explore-done (suc n) i Q d = go (ltb i (length Q)) refl (λ c. explore-done n (suc i) (reach_all same Q (successors (get_or Q i start))) c)
      where
        E : List A
        E = explore same successors start n (suc i) (reach_all same Q (successors (get_or Q i start)))

        go : (t : Bool) → ltb i (length Q) ≡ t → (Done (suc i) (reach_all same Q (successors (get_or Q i start))) → length E ≤ n + suc i → Done (length E) E)
            → length (cond t E Q) ≤ suc n + i → Done (length (cond t E Q)) (cond t E Q)
        go true e r = λ h. r (done-step i Q (ltb-true _ _ e) d) (omega arith)
        go false e r = λ h j k l y m. let g = ltb-false i (length Q) e in d j (omega arith) l y m
