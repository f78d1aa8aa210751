-- Laws of lists: results that are collected, element by element, and tests that no element passes. Assumes nothing.
use mathlib.Core.Path.{◌≡◌, refl, sym, ap, subst, ◌∙◌}
use mathlib.Core.Bool.{Bool, true, false, ◌||◌, false≢true}
use mathlib.Core.List.Memᴰ
use mathlib.Core.List.{List, [], ◌∷◌}
use mathlib.Core.Option.{Option, none, some, bind, some-injective}
use Prim.Native.Nat.{ℕ, zero, suc, ◌<◌}
use native.Mathlib.Omega.{arith}
use lib.ListN.{length, get_or}
use Rattle.model.specs.Lists.{any, collect}
use Rattle.laws.specs.Inclusion.{In}
use Rattle.laws.proofs.ListLaws.{in_any, bind-some}

module _ {A : Type 0} (p : A → Bool) where
  -- a test that no element passes is false of each, and the other way
  pub any_false : {xs : List A} {x : A} → any p xs ≡ false → In x xs → p x ≡ false
  any_false {xs} {x} e m = go (p x) refl
    where
      go : (b : Bool) → p x ≡ b → b ≡ false
      go true q = absurd (false≢true (sym e ∙ in_any p m q))
      go false q = refl

  pub any_none : (xs : List A) → ((x : A) → In x xs → p x ≡ false) → any p xs ≡ false
  unfolding any
  any_none [] h = refl
  any_none (x ∷ xs) h = ap (λ (b : Bool). b || any p xs) (h x (Memᴰ.head refl)) ∙ any_none xs (λ y m. h y (Memᴰ.tail m))

module _ {A B : Type 0} (f : A → Option B) where
  -- an element without a result leaves nothing
  pub collect-none : (xs : List A) (a : A) (j : ℕ) → j < length xs → f (get_or xs j a) ≡ none → collect f xs ≡ none
  unfolding collect bind
  collect-none [] a j h e = absurd (omega arith)
  collect-none (x ∷ xs) a zero h e = rw e
  collect-none (x ∷ xs) a (suc j) h e = go (f x) (collect-none xs a j (omega arith) e)
    where
      go : (o : Option B) → collect f xs ≡ none → bind o (λ y. bind (collect f xs) (λ ys. some (y ∷ ys))) ≡ none
      go none r = refl
      go (some y) r = rw r

  -- where each element has a result, all are collected
  pub collect-all : (xs : List A) (a : A) → ((j : ℕ) → j < length xs → (y : B) × (f (get_or xs j a) ≡ some y)) → (ys : List B) × (collect f xs ≡ some ys)
  unfolding collect bind
  collect-all [] a h = ([], refl)
  collect-all (x ∷ xs) a h =
      let t = h 0 (omega arith) in
      let r = collect-all xs a (λ j l. h (suc j) (omega arith)) in
      (t.0 ∷ r.0, rw (t.1, r.1))

  -- the results, as many as there are elements, are those of the elements
  pub collect-length : (xs : List A) (ys : List B) → collect f xs ≡ some ys → length ys ≡ length xs
  unfolding collect
  collect-length [] ys e = sym (ap length (some-injective [] ys e))
  collect-length (x ∷ xs) ys e =
      let u = bind-some (f x) _ ys e in
      let w = bind-some (collect f xs) _ ys u.2 in
      let q : u.0 ∷ w.0 ≡ ys = some-injective (u.0 ∷ w.0) ys w.2 in
      sym (ap length q) ∙ ap suc (collect-length xs w.0 w.1)

  pub collect-at : (xs : List A) (ys : List B) (a : A) (b : B) → collect f xs ≡ some ys → (j : ℕ) → j < length xs → f (get_or xs j a) ≡ some (get_or ys j b)
  unfolding collect
  collect-at [] ys a b e j h = absurd (omega arith)
  collect-at (x ∷ xs) ys a b e j h =
      let u = bind-some (f x) _ ys e in
      let w = bind-some (collect f xs) _ ys u.2 in
      let q : u.0 ∷ w.0 ≡ ys = some-injective (u.0 ∷ w.0) ys w.2 in
      subst (λ (l : List B). f (get_or (x ∷ xs) j a) ≡ some (get_or l j b)) q (go u.0 w.0 j h u.1 (λ i l. collect-at xs w.0 a b w.1 i l))
    where
      go : (y : B) (zs : List B) (i : ℕ) → i < suc (length xs) → f x ≡ some y → ((k : ℕ) → k < length xs → f (get_or xs k a) ≡ some (get_or zs k b))
          → f (get_or (x ∷ xs) i a) ≡ some (get_or (y ∷ zs) i b)
      go y zs zero l first rest = first
      go y zs (suc i) l first rest = rest i (omega arith)
