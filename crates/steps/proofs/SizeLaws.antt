-- How many bits a step strikes: as many as the strings and words that it names have fewer. Assumes nothing.
use Rattle.std.specs.Prelude.{Some}
use mathlib.Core.Path.{◌≡◌, refl, sym, ap, ap₂, subst, ◌∙◌}
use mathlib.Core.Logic.{◌≢◌}
use mathlib.Core.Bool.{Bool, true, false}
use mathlib.Core.List.Memᴰ
use mathlib.Core.List.{List, [], ◌∷◌, ◌++◌, map, append-nil}
use Prim.Native.Nat.{ℕ, suc, ◌+◌, ◌-◌, ◌*◌, ◌≤◌, ◌<◌}
use native.Mathlib.Omega.{arith}
use lib.Dec.{eqb, ltb}
use lib.ListN.{length, get_or, take, drop, set, take-append-drop, length-set}
use lib.Seq.{drop-drop, set_split, split_at, ext_get_or, get_or-set_same, get_or-set_other}
use borrow.Author.Tests.{eqb-true, eqb-false, ltb-true, ltb-false}
use Rattle.model.specs.Words.{bits, word, size}
use Rattle.model.specs.Domains.{row}
use Rattle.model.specs.Constraints.{Problem, Constraint}
use Rattle.model.specs.Support.{narrowed}
use Rattle.laws.specs.Inclusion.{In, Below, Distinct}
use Rattle.laws.proofs.TableLaws.{bits_most, size-most, struck-size}
use Rattle.laws.proofs.SupportLaws.{narrowed-below}
use Rattle.rows.specs.Rows.{stored}
use Rattle.rows.proofs.StoreLaws.{stored-length, row-stored-other, stored-before, stored-after, stored-inside}
use Rattle.laws.proofs.DomainLaws.{row-length, row_word}
use Rattle.inplace.specs.InTable.{Out}
use Rattle.inplace.specs.InPlace.{taken}
use Rattle.records.specs.declared.names.Names.{Names}
use Rattle.steps.specs.Step.{Step}
use Rattle.steps.specs.Names.{texts, numbers}
use Rattle.steps.proofs.TidyLaws.{take_next}

-- the bits of one word
pub small_count : (w m : ℕ) → m ≡ length (bits w) → m ≤ 64
small_count w m e = omega (arith, bits_most w)

-- ---- several

pub size-append : (T U : List ℕ) → size (T ++ U) ≡ size T + size U
unfolding size
size-append [] U = omega arith
size-append (w ∷ T) U = let r = size-append T U in omega arith

-- a string more
pub taken_next : (xs : List ℕ) (x : ℕ) (T : List ℕ) → size (taken (xs ++ (x ∷ [])) [] T) ≡ size (taken xs [] T) + size (row T x)
unfolding size
taken_next [] x T = ap size (append-nil (row T x)) ∙ omega arith
taken_next (y ∷ xs) x T =
    let a = size-append (row T y) (taken (xs ++ (x ∷ [])) [] T) in
    let b = size-append (row T y) (taken xs [] T) in
    let r = taken_next xs x T in
    omega arith

-- and a number
pub taken-number : (xs : List ℕ) (i : ℕ) (T : List ℕ) → size (taken xs (i ∷ []) T) ≡ size (taken xs [] T) + length (bits (word T i))
unfolding size
taken-number [] i T = omega arith
taken-number (x ∷ xs) i T =
    let a = size-append (row T x) (taken xs (i ∷ []) T) in
    let b = size-append (row T x) (taken xs [] T) in
    let r = taken-number xs i T in
    omega arith

-- the loop over the strings that are named: n bits in the first j of them
pub record Summed (xs T : List ℕ) (j n : ℕ) : Type 0 where
  pub sum : n ≡ size (taken (take j xs) [] T)
  pub small : n ≤ 4096 * j

pub sum-start : (xs T : List ℕ) → Summed xs T 0 0
unfolding size
sum-start xs T = record { sum = refl; small = omega arith }

pub sum-next : (xs T : List ℕ) (j n k : ℕ) → j < length xs → 64 * get_or xs j 0 + 64 ≤ length T → k ≡ size (row T (get_or xs j 0)) → Summed xs T j n → Summed xs T (j + 1) (n + k)
sum-next xs T j n k h i e s =
    let a = s.sum in
    let b = s.small in
    let z = ap (λ (ys : List ℕ). size (taken ys [] T)) (take_next xs j h) in
    let t = taken_next (take j xs) (get_or xs j 0) T in
    let lr = row-length T (get_or xs j 0) i in
    let w = size-most (row T (get_or xs j 0)) in
    record { sum = omega arith; small = omega arith }

-- and the number, where there is one
pub sum-last : (m : Names) (T : List ℕ) (n i : ℕ) → m.number ≡ Some i → n ≡ size (taken (texts m) [] T) → (k : ℕ) → k ≡ length (bits (word T i)) → n + k ≡ size (taken (texts m) (numbers m) T)
sum-last m T n i q s k d = let b = taken-number (texts m) i T in rw q (omega arith)

-- ---- a table of which only some strings and words differ

pub stored-size : (T : List ℕ) (x : ℕ) (r : List ℕ) → size (stored T x r) + size (row T x) ≡ size T + size r
unfolding stored row
stored-size T x r =
    let a = size-append (take (64 * x) T ++ r) (drop (64 * x + 64) T) in
    let b = size-append (take (64 * x) T) r in
    let c = ap size (take-append-drop (64 * x) T) in
    let d = size-append (take (64 * x) T) (drop (64 * x) T) in
    let e = ap size (take-append-drop 64 (drop (64 * x) T)) in
    let f = size-append (take 64 (drop (64 * x) T)) (drop 64 (drop (64 * x) T)) in
    let g = ap size (drop-drop 64 (64 * x) T) in
    omega arith

set-size : (T : List ℕ) (i w : ℕ) → i < length T → size (set T i w) + length (bits (word T i)) ≡ size T + length (bits w)
unfolding size
set-size T i w h =
    let a = ap size (set_split T i w h) in
    let b = size-append (take i T) (w ∷ drop (suc i) T) in
    let c = ap size (split_at T i 0 h) in
    let d = size-append (take i T) (word T i ∷ drop (suc i) T) in
    omega arith

-- the words of a list are those of U as far as T has them elsewhere
abbrev pub Agrees : List ℕ → List ℕ → List ℕ → List ℕ → Type 0
Agrees xs is T U = (k : ℕ) → ((x : ℕ) → In x xs → Out x k) → ((i : ℕ) → In i is → k ≢ i) → word U k ≡ word T k

module _ (U is : List ℕ) where
  -- where no string differs
  abbrev pub Plain : Type 0
  Plain = (T : List ℕ) → length U ≡ length T → Agrees [] is T U → size T + size (map (word U) is) ≡ size U + size (map (word T) is)

  -- the words past a string are as they were in the table with that string's row
  past_same : (T : List ℕ) (x : ℕ) (r : List ℕ) (h : 64 * x + 64 ≤ length T) → length r ≡ 64 → (js : List ℕ) → ((i : ℕ) → In i js → 64 * x + 64 ≤ i)
      → map (word (stored T x r)) js ≡ map (word T) js
  past_same T x r h l [] p = refl
  past_same T x r h l (i ∷ js) p = ap₂ (λ (w : ℕ) (ws : List ℕ). w ∷ ws) (stored-after T x r h l i (p i (Memᴰ.head refl))) (past_same T x r h l js (λ k m. p k (Memᴰ.tail m)))

  taken-same : (T : List ℕ) (x : ℕ) (r : List ℕ) (h : 64 * x + 64 ≤ length T) → length r ≡ 64 → ((i : ℕ) → In i is → 64 * x + 64 ≤ i) → (ys : List ℕ) → ((y : ℕ) → In y ys → y ≢ x)
      → taken ys is (stored T x r) ≡ taken ys is T
  taken-same T x r h l p [] d = past_same T x r h l is p
  taken-same T x r h l p (y ∷ ys) d = ap₂ (λ (a b : List ℕ). a ++ b) (row-stored-other T x r h l y (d y (Memᴰ.head refl))) (taken-same T x r h l p ys (λ z m. d z (Memᴰ.tail m)))

  pub size-differs : Plain → (xs : List ℕ) → Distinct xs → (T : List ℕ) → length U ≡ length T → ((x : ℕ) → In x xs → 64 * x + 64 ≤ length T) → ((x : ℕ) → In x xs → (i : ℕ) → In i is → 64 * x + 64 ≤ i)
      → Agrees xs is T U → size T + size (taken xs is U) ≡ size U + size (taken xs is T)
  size-differs plain [] ds T l f p a = plain T l a
  size-differs plain (x ∷ xs) ds T l f p a =
      let h = f x (Memᴰ.head refl) in
      let r : List ℕ = row U x in
      let lr : length (row U x) ≡ 64 = row-length U x (omega arith) in
      let S : List ℕ = stored T x r in
      let lS : length (stored T x (row U x)) ≡ length T = stored-length T x r h lr in
      let q = size-differs plain xs ds.1 S (l ∙ sym lS) (λ y m. let k = f y (Memᴰ.tail m) in omega arith) (λ y m. p y (Memᴰ.tail m)) rest in
      let s = ap size (taken-same T x r h lr (p x (Memᴰ.head refl)) xs ds.0) in
      let c = size-append (row U x) (taken xs is U) in
      let d = size-append (row T x) (taken xs is T) in
      let e = stored-size T x r in
      omega arith
    where
      h₀ : 64 * x + 64 ≤ length T
      h₀ = f x (Memᴰ.head refl)

      lr₀ : length (row U x) ≡ 64
      lr₀ = let h = h₀ in row-length U x (omega arith)

      -- outside the row
      beyond : (k : ℕ) → Out x k → ((y : ℕ) → In y xs → Out y k) → ((i : ℕ) → In i is → k ≢ i) → word U k ≡ word T k
      beyond k n o g = a k (λ y m. elim m [ Memᴰ.head e ↦ (λ j b q. n j b (q ∙ ap (λ (z : ℕ). 64 * z + j) e)) | Memᴰ.tail i ↦ o y i ]) g

      rest : Agrees xs is (stored T x (row U x)) U
      rest k o g = at (ltb k (64 * x)) (ltb k (64 * x + 64)) refl refl
        where
          at : (s t : Bool) → ltb k (64 * x) ≡ s → ltb k (64 * x + 64) ≡ t → word U k ≡ word (stored T x (row U x)) k
          at true t p₁ q₁ =
              let b = ltb-true k (64 * x) p₁ in
              beyond k (λ j c e. omega arith) o g ∙ sym (stored-before T x (row U x) h₀ lr₀ k b)
          at false true p₁ q₁ =
              let b = ltb-false k (64 * x) p₁ in
              let c = ltb-true k (64 * x + 64) q₁ in
              let e : 64 * x + (k - 64 * x) ≡ k = omega arith in
              let j : k - 64 * x < 64 = omega arith in
              ap (word U) (sym e) ∙ sym (row_word U x (k - 64 * x) j) ∙ sym (stored-inside T x (row U x) h₀ lr₀ (k - 64 * x) j) ∙ ap (word (stored T x (row U x))) e
          at false false p₁ q₁ =
              let b = ltb-false k (64 * x + 64) q₁ in
              beyond k (λ j c e. omega arith) o g ∙ sym (stored-after T x (row U x) h₀ lr₀ k b)

-- no number, or one
pub plain-none : (U : List ℕ) → Plain U []
unfolding size
plain-none U T l a = let e : U ≡ T = ext_get_or 0 U T l (λ k h. a k (λ x m. elim m [ ]) (λ i m. elim m [ ])) in let q = ap size e in omega arith

pub plain-one : (U : List ℕ) (i : ℕ) → i < length U → Plain U (i ∷ [])
unfolding size
plain-one U i h T l a =
    let e : U ≡ set T i (word U i) = ext_get_or 0 U (set T i (word U i)) (l ∙ sym (length-set T i (word U i))) (λ k b. at k (eqb k i) refl) in
    let q = ap size e in
    let s = set-size T i (word U i) (omega arith) in
    omega arith
  where
    at : (k : ℕ) (t : Bool) → eqb k i ≡ t → word U k ≡ word (set T i (word U i)) k
    at k true e = let d = eqb-true k i e in subst (λ (z : ℕ). word U z ≡ word (set T i (word U i)) z) (sym d) (sym (get_or-set_same T i (word U i) 0 (omega arith)))
    at k false e = let d = eqb-false k i e in a k (λ x m. elim m [ ]) (λ j m. elim m [ Memᴰ.head p ↦ (λ z. d (z ∙ p)) | Memᴰ.tail n ↦ elim n [ ] ]) ∙ sym (get_or-set_other T i k (word U i) 0 d)

-- ---- the count of a step

-- a narrowed table has as many bits fewer as what is named has
module _ (P : Problem) (c : Constraint) (T U : List ℕ) (e : U ≡ narrowed P c T) (xs is : List ℕ) where
  pub step-counted : size T + size (taken xs is U) ≡ size U + size (taken xs is T) → (n : ℕ) → n ≡ size (taken xs is T) - size (taken xs is U) → size (taken xs is U) ≤ size (taken xs is T) → Step P c T U n
  step-counted d n q s =
      let b : Below U T = subst (λ (W : List ℕ). Below W T) (sym e) (narrowed-below P c T) in
      let z = struck-size T U b in
      record { table = e; count = omega arith }
