-- The order of tables, how many bits they have, and how many are struck. Assumes nothing.
use mathlib.Core.Path.{◌≡◌, refl, sym, ap, subst, ◌∙◌}
use mathlib.Core.Bool.{Bool, true, false, not, cond, false≢true}
use mathlib.Core.List.Memᴰ
use mathlib.Core.List.{List, [], ◌∷◌}
use Prim.Native.Nat.{ℕ, zero, suc, ◌+◌, ◌*◌, ◌^◌, ◌≤◌, ◌<◌}
use native.Mathlib.Omega.{arith}
use lib.Dec.{ltb}
use lib.ListN.{length, get_or-eq_default}
use lib.Seq.{ext_get_or}
use borrow.Author.Tests.{ltb-true, ltb-false}
use Rattle.model.specs.Lists.{select, from, upto}
use Rattle.model.specs.Words.{bit, bits, word, Words, size}
use Rattle.model.specs.Support.{struck}
use Rattle.laws.specs.Inclusion.{Below, In, Within}
use Rattle.laws.proofs.ListLaws.{in_upto, from-length}
use Rattle.laws.proofs.WordLaws.{zero_bit, bit_high, within_antisym}

pub below_refl : (T : List ℕ) → Below T T
below_refl T = record { same_length = refl; within = λ i b h. h }

pub below_trans : {T U W : List ℕ} → Below T U → Below U W → Below T W
below_trans p q = record { same_length = p.same_length ∙ q.same_length; within = λ i b h. q.within i b (p.within i b h) }

pub below_antisym : {T U : List ℕ} → Below T U → Below U T → T ≡ U
below_antisym {T} {U} p q = ext_get_or 0 T U p.same_length (λ i h. within_antisym (word T i) (word U i) (p.within i) (q.within i))

pub below-of-eq : {T U : List ℕ} → T ≡ U → Below T U
below-of-eq {T} e = subst (λ (W : List ℕ). Below T W) e (below_refl T)

-- only the words of the table matter
pub below_of : (T U : List ℕ) → length T ≡ length U → ((i : ℕ) → i < length T → Within (word T i) (word U i)) → Below T U
below_of T U e h = record { same_length = e; within = λ i. go i (ltb i (length T)) refl }
  where
    go : (i : ℕ) (t : Bool) → ltb i (length T) ≡ t → Within (word T i) (word U i)
    go i true p = h i (ltb-true i (length T) p)
    go i false p = λ b q. absurd (false≢true (sym (zero_bit b) ∙ ap (λ (w : ℕ). bit w b) (sym (get_or-eq_default T 0 (ltb-false i (length T) p))) ∙ q))

pub below-words : {T U : List ℕ} → Below T U → Words U → Words T
below-words p h i b q = h i b (p.within i b q)

-- a table of 64-bit words, as a slice of `u64` gives it
pub words_of : (T : List ℕ) → ((i : ℕ) → word T i < 2 ^ 64) → Words T
words_of T h i b q = bit_high (word T i) 64 b (h i) q

-- ---- how many bits

select_le : {A : Type 0} (p q : A → Bool) (xs : List A) → ((x : A) → p x ≡ true → q x ≡ true) → length (select p xs) ≤ length (select q xs)
unfolding select
select_le p q [] h = omega arith
select_le {A} p q (x ∷ xs) h = go (p x) (q x) (h x) (select_le p q xs h)
  where
    go : (a b : Bool) → (a ≡ true → b ≡ true) → length (select p xs) ≤ length (select q xs) → length (cond a (x ∷ select p xs) (select p xs)) ≤ length (cond b (x ∷ select q xs) (select q xs))
    go true true f r = omega arith
    go true false f r = absurd (false≢true (f refl))
    go false true f r = omega arith
    go false false f r = r

-- where the counts agree, so do the tests
select-eq : {A : Type 0} (p q : A → Bool) (xs : List A) → ((x : A) → p x ≡ true → q x ≡ true) → length (select q xs) ≤ length (select p xs)
    → (x : A) → In x xs → q x ≡ true → p x ≡ true
unfolding select
select-eq {A = A} p q [] h l x m e = elim m [ ]
select-eq {A} p q (y ∷ xs) h l x m e = go (p y) (q y) refl refl l m (λ r k. select-eq p q xs h r x k e)
  where
    go : (a b : Bool) → p y ≡ a → q y ≡ b → length (cond b (y ∷ select q xs) (select q xs)) ≤ length (cond a (y ∷ select p xs) (select p xs)) → In x (y ∷ xs)
        → (length (select q xs) ≤ length (select p xs) → In x xs → p x ≡ true) → p x ≡ true
    go true true s t r (Memᴰ.head k) rec = ap p k ∙ s
    go true false s t r (Memᴰ.head k) rec = ap p k ∙ s
    go false true s t r (Memᴰ.head k) rec = let z = select_le p q xs h in absurd (omega arith)
    go false false s t r (Memᴰ.head k) rec = absurd (false≢true (sym t ∙ ap q (sym k) ∙ e))
    go true true s t r (Memᴰ.tail k) rec = rec (omega arith) k
    go true false s t r (Memᴰ.tail k) rec = absurd (false≢true (sym t ∙ h y s))
    go false true s t r (Memᴰ.tail k) rec = let z = select_le p q xs h in absurd (omega arith)
    go false false s t r (Memᴰ.tail k) rec = rec r k

pub word-size_le : (w v : ℕ) → Within w v → length (bits w) ≤ length (bits v)
unfolding bits
word-size_le w v h = select_le (bit w) (bit v) (upto 64) h

word-size-eq : (w v : ℕ) → Within w v → length (bits v) ≤ length (bits w) → (b : ℕ) → b < 64 → bit v b ≡ true → bit w b ≡ true
unfolding bits
word-size-eq w v h l b k = select-eq (bit w) (bit v) (upto 64) h l b (in_upto 64 b k)

tail-below : {w v : ℕ} {T U : List ℕ} → Below (w ∷ T) (v ∷ U) → Below T U
tail-below p = let e = p.same_length in record { same_length = omega arith; within = λ i. p.within (suc i) }

pub size_le : (T U : List ℕ) → Below T U → size T ≤ size U
unfolding size
size_le [] [] p = omega arith
size_le [] (v ∷ U) p = omega arith
size_le (w ∷ T) [] p = let e = p.same_length in absurd (omega arith)
size_le (w ∷ T) (v ∷ U) p = let a = word-size_le w v (p.within 0) in let r = size_le T U (tail-below p) in omega arith

pub select-length : {A : Type 0} (p : A → Bool) (xs : List A) → length (select p xs) ≤ length xs
unfolding select
select-length p [] = omega arith
select-length {A} p (x ∷ xs) = go (p x) (select-length p xs)
  where
    go : (b : Bool) → length (select p xs) ≤ length xs → length (cond b (x ∷ select p xs) (select p xs)) ≤ suc (length xs)
    go true l = omega arith
    go false l = omega arith

-- 64 bits a word
pub bits_most : (w : ℕ) → length (bits w) ≤ 64
unfolding bits upto
bits_most w = omega (arith, select-length (bit w) (from 0 64), from-length 0 64)

pub size-most : (T : List ℕ) → size T ≤ 64 * length T
unfolding size
size-most [] = omega arith
size-most (w ∷ T) = omega (arith, bits_most w, size-most T)

-- a table below another of no more bits is the other
pub size-eq : (T U : List ℕ) → Below T U → Words U → size U ≤ size T → Below U T
unfolding size
size-eq [] [] p h l = below_refl []
size-eq [] (v ∷ U) p h l = let e = p.same_length in absurd (omega arith)
size-eq (w ∷ T) [] p h l = let e = p.same_length in absurd (omega arith)
size-eq (w ∷ T) (v ∷ U) p h l =
    let a = word-size_le w v (p.within 0) in
    let b = size_le T U (tail-below p) in
    let r = size-eq T U (tail-below p) (λ i. h (suc i)) (omega arith) in
    record {
      same_length = sym p.same_length;
      within = elim [ zero ↦ λ c q. word-size-eq w v (p.within 0) (omega arith) c (h 0 c q) q | suc i ↦ r.within i ];
    }

-- ---- how many bits are struck

-- of the elements that pass p, those that pass q and those that do not
select-split : {A : Type 0} (p q : A → Bool) (xs : List A) → ((x : A) → q x ≡ true → p x ≡ true)
    → length (select (λ x. not (q x)) (select p xs)) + length (select q xs) ≡ length (select p xs)
unfolding select
select-split p q [] h = refl
select-split {A} p q (x ∷ xs) h = go (p x) (q x) refl (h x) (select-split p q xs h)
  where
    go : (a b : Bool) → q x ≡ b → (b ≡ true → a ≡ true) → length (select (λ x. not (q x)) (select p xs)) + length (select q xs) ≡ length (select p xs)
        → length (select (λ x. not (q x)) (cond a (x ∷ select p xs) (select p xs))) + length (cond b (x ∷ select q xs) (select q xs)) ≡ length (cond a (x ∷ select p xs) (select p xs))
    go true true e f r = rw e (omega arith)
    go true false e f r = rw e (omega arith)
    go false true e f r = absurd (false≢true (f refl))
    go false false e f r = r

lost_size : (w v : ℕ) → Within v w → length (select (λ b. not (bit v b)) (bits w)) + length (bits v) ≡ length (bits w)
unfolding bits
lost_size w v h = select-split (bit w) (bit v) (upto 64) h

-- what is struck and what is left is what there was
pub struck-size : (T U : List ℕ) → Below U T → struck T U + size U ≡ size T
unfolding struck size
struck-size [] [] p = refl
struck-size [] (v ∷ U) p = let e = p.same_length in absurd (omega arith)
struck-size (w ∷ T) [] p = let e = p.same_length in absurd (omega arith)
struck-size (w ∷ T) (v ∷ U) p =
    let r = struck-size T U (tail-below p) in
    let a = lost_size w v (p.within 0) in
    omega arith

-- where no bit is struck the table is the same
pub struck-none : (T U : List ℕ) → Below U T → Words T → struck T U ≡ 0 → U ≡ T
struck-none T U p h e = let s = struck-size T U p in below_antisym p (size-eq U T p h (omega arith))
