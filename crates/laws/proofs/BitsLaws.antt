-- Laws of `bits`: the set bits of a word, upwards; how many they are; words of at most one. Assumes nothing.
use mathlib.Core.Path.{◌≡◌, refl, sym, ap, ap₂, subst, ◌∙◌}
use mathlib.Core.Logic.{◌⊎◌, inl, inr}
use mathlib.Core.Bool.{Bool, true, false, cond, not, ◌&&◌, false≢true}
use mathlib.Core.List.Memᴰ
use mathlib.Core.List.{List, [], ◌∷◌, nil≢cons}
use Prim.Native.Nat.{ℕ, zero, suc, ◌+◌, ◌-◌, ◌/◌, ◌%◌, ◌^◌, ◌≤◌, ◌<◌}
use native.Mathlib.Omega.{arith}
use native.Mathlib.Numerals.{add-one}
use lib.ListN.{length}
use lib.Count.{ones, ones_step}
use lib.Arith.{lt-one}
use lib.Pow.{shr_lt}
use lib.Dec.{eqb}
use borrow.Author.Tests.{leb-true, leb-false, eq-eqb, ne_eqb}
use Rattle.model.specs.Lists.{select, from, upto}
use Rattle.model.specs.Words.{bit, bits, several}
use Rattle.laws.specs.Inclusion.{Single, In}
use Rattle.laws.proofs.ListLaws.{of-select, of-from, one_member}
use Rattle.laws.proofs.WordLaws.{digit, bit-lowest, bit-suc, pow-only, of-bits, in_bits, bit-sub, and_yes}

-- ---- the bits of a word go upwards

abbrev pub Increasing : List ℕ → Type 0
Increasing [] = Unit {0}
Increasing (b ∷ bs) = ((c : ℕ) → In c bs → b < c) × Increasing bs

from_increasing : (i n : ℕ) → Increasing (from i n)
unfolding from
from_increasing i zero = tt
from_increasing i (suc n) = ((λ c m. let t = of-from (suc i) n m in omega arith), from_increasing (suc i) n)

select_increasing : (p : ℕ → Bool) (xs : List ℕ) → Increasing xs → Increasing (select p xs)
unfolding select
select_increasing p [] h = tt
select_increasing p (x ∷ xs) h = go (p x) (select_increasing p xs h.1)
  where
    go : (b : Bool) → Increasing (select p xs) → Increasing (cond b (x ∷ select p xs) (select p xs))
    go true r = ((λ c m. h.0 c (of-select p xs m).0), r)
    go false r = r

pub bits_increasing : (w : ℕ) → Increasing (bits w)
unfolding bits upto
bits_increasing w = select_increasing (bit w) (from 0 64) (from_increasing 0 64)

pub single : (w b c : ℕ) → Single w → b < 64 → c < 64 → bit w b ≡ true → bit w c ≡ true → b ≡ c
single w b c h k l p q = one_member (bits w) b c h (in_bits w b p k) (in_bits w c q l)

pub few : (b : ℕ) (xs : List ℕ) → Increasing xs → ((c : ℕ) → In c xs → c ≡ b) → length xs < 2
few b [] i f = omega arith
few b (x ∷ []) i f = omega arith
few b (x ∷ y ∷ xs) i f =
    let p = f x (Memᴰ.head refl) in
    let q = f y (Memᴰ.tail (Memᴰ.head refl)) in
    let r = i.0 y (Memᴰ.head refl) in
    absurd (omega arith)

pub single_of : (w : ℕ) → ((b c : ℕ) → bit w b ≡ true → bit w c ≡ true → b ≡ c) → Single w
single_of w h = go (bits w) (bits_increasing w) (λ b c m n. h b c (of-bits w m).0 (of-bits w n).0)
  where
    go : (xs : List ℕ) → Increasing xs → ((b c : ℕ) → In b xs → In c xs → b ≡ c) → length xs < 2
    go [] i f = omega arith
    go (x ∷ []) i f = omega arith
    go (x ∷ y ∷ xs) i f =
        let p = f x y (Memᴰ.head refl) (Memᴰ.tail (Memᴰ.head refl)) in
        let r = i.0 y (Memᴰ.head refl) in
        absurd (omega arith)

pub pow-single : (b : ℕ) → Single (2 ^ b)
pow-single b = few b (bits (2 ^ b)) (bits_increasing (2 ^ b)) (λ c m. pow-only b c (of-bits (2 ^ b) m).0)

-- the test for more than one bit
pub several_true : (w : ℕ) → several w ≡ true → 2 ≤ length (bits w)
unfolding several
several_true w e = leb-true 2 (length (bits w)) e

pub several_false : (w : ℕ) → several w ≡ false → Single w
unfolding several
several_false w e = leb-false 2 (length (bits w)) e

-- two bits of a word with several, the lower first
pub two-bits : (w : ℕ) → 2 ≤ length (bits w) → (b : ℕ) × (c : ℕ) × (bit w b ≡ true) × (bit w c ≡ true) × (b < c)
two-bits w h = go (bits w) (bits_increasing w) h (λ b m. (of-bits w m).0)
  where
    go : (bs : List ℕ) → Increasing bs → 2 ≤ length bs → ((b : ℕ) → In b bs → bit w b ≡ true) → (b : ℕ) × (c : ℕ) × (bit w b ≡ true) × (bit w c ≡ true) × (b < c)
    go [] i l f = absurd (omega arith)
    go (b ∷ []) i l f = absurd (omega arith)
    go (b ∷ c ∷ bs) i l f = (b, c, f b (Memᴰ.head refl), f c (Memᴰ.tail (Memᴰ.head refl)), i.0 c (Memᴰ.head refl))

-- ---- the count of the set bits is what `count_ones` gives

shifted : (w i n : ℕ) → length (select (bit w) (from (suc i) n)) ≡ length (select (bit (w / 2)) (from i n))
unfolding select from
shifted w i zero = refl
shifted w i (suc n) = go (bit w (suc i)) (bit (w / 2) i) (bit-suc w i) (shifted w (suc i) n)
  where
    go : (a b : Bool) → a ≡ b → length (select (bit w) (from (suc (suc i)) n)) ≡ length (select (bit (w / 2)) (from (suc i) n))
        → length (cond a (suc i ∷ select (bit w) (from (suc (suc i)) n)) (select (bit w) (from (suc (suc i)) n)))
        ≡ length (cond b (i ∷ select (bit (w / 2)) (from (suc i) n)) (select (bit (w / 2)) (from (suc i) n)))
    go true true e r = ap suc r
    go true false e r = absurd (false≢true (sym e))
    go false true e r = absurd (false≢true e)
    go false false e r = r

zero_ones : ones 0 ≡ 0
unfolding ones
zero_ones = refl

select_ones : (n w : ℕ) → w < 2 ^ n → length (select (bit w) (from 0 n)) ≡ ones w
unfolding select from
select_ones zero w h = sym (ap ones (lt-one h) ∙ zero_ones)
select_ones (suc n) w h =
    go (bit w 0) (digit w) (bit-lowest w) ∙ ap (λ (x : ℕ). w % 2 + x) (shifted w 0 n ∙ select_ones n (w / 2) (shr_lt n 1 (subst (λ (x : ℕ). w < 2 ^ x) (sym (add-one n)) h))) ∙ sym (ones_step w)
  where
    go : (b : Bool) → (w % 2 ≡ 0) ⊎ (w % 2 ≡ 1) → b ≡ eqb (w % 2) 1 → length (cond b (0 ∷ select (bit w) (from 1 n)) (select (bit w) (from 1 n))) ≡ w % 2 + length (select (bit w) (from 1 n))
    go true (inl p) e = absurd (false≢true (ap (λ (x : ℕ). eqb x 1) (sym p) ∙ sym e))
    go true (inr p) e = omega arith
    go false (inl p) e = omega arith
    go false (inr p) e = absurd (false≢true (e ∙ ap (λ (x : ℕ). eqb x 1) p))

pub bits_ones : (w : ℕ) → w < 2 ^ 64 → length (bits w) ≡ ones w
unfolding bits upto
bits_ones w h = select_ones 64 w h

-- ---- without its lowest bit a word has the other bits, in their order

pub select-same : (p q : ℕ → Bool) (xs : List ℕ) → ((x : ℕ) → In x xs → p x ≡ q x) → select p xs ≡ select q xs
unfolding select
select-same p q [] h = refl
select-same p q (x ∷ xs) h = ap₂ (λ (t : Bool) (l : List ℕ). cond t (x ∷ l) l) (h x (Memᴰ.head refl)) (select-same p q xs (λ y m. h y (Memᴰ.tail m)))

without-first : (p : ℕ → Bool) (b : ℕ) (bs xs : List ℕ) → Increasing xs → select p xs ≡ b ∷ bs → select (λ c. p c && not (eqb b c)) xs ≡ bs
unfolding select
without-first p b bs [] inc e = absurd (nil≢cons e)
without-first p b bs (x ∷ xs) inc e = go (p x) refl e (λ q. without-first p b bs xs inc.1 q)
  where
    go : (t : Bool) → p x ≡ t → cond t (x ∷ select p xs) (select p xs) ≡ b ∷ bs → (select p xs ≡ b ∷ bs → select (λ c. p c && not (eqb b c)) xs ≡ bs)
        → cond (t && not (eqb b x)) (x ∷ select (λ c. p c && not (eqb b c)) xs) (select (λ c. p c && not (eqb b c)) xs) ≡ bs
    go true q r rec =
        let i : x ≡ b = cc in
        let j : select p xs ≡ bs = cc in
        rw (eq-eqb b x (sym i)) (select-same (λ c. p c && not (eqb b c)) p xs (λ c m.
        let l = inc.0 c m in
        rw (ne_eqb b c (λ k. omega arith)) (and_yes (p c))) ∙ j)
    go false q r rec = rec r

pub bits-rest : (w b : ℕ) (bs : List ℕ) → bits w ≡ b ∷ bs → bits (w - 2 ^ b) ≡ bs
unfolding bits upto
bits-rest w b bs e =
    let there : bit w b ≡ true = (of-bits w (subst (λ (l : List ℕ). In b l) (sym e) (Memᴰ.head refl))).0 in
    select-same (bit (w - 2 ^ b)) (λ c. bit w c && not (eqb b c)) (from 0 64) (λ c m. bit-sub w b c there) ∙ without-first (bit w) b bs (from 0 64) (from_increasing 0 64) e

-- the lowest bit, which has none below it, comes first
pub bits-lowest : (w v : ℕ) → v < 64 → bit w v ≡ true → ((i : ℕ) → i < v → bit w i ≡ false) → bits w ≡ v ∷ bits (w - 2 ^ v)
bits-lowest w v h here below =
    let t = first (bits w) (bits_increasing w) (in_bits w v here h) (λ b m. (of-bits w m).0) in
    t.1 ∙ ap (λ (bs : List ℕ). v ∷ bs) (sym (bits-rest w v t.0 t.1))
  where
    first : (xs : List ℕ) → Increasing xs → In v xs → ((b : ℕ) → In b xs → bit w b ≡ true) → (bs : List ℕ) × (xs ≡ v ∷ bs)
    first [] inc x3 f = elim x3 [ ]
    first (x ∷ xs) inc (Memᴰ.head e) f = (xs, ap (λ (y : ℕ). y ∷ xs) (sym e))
    first (x ∷ xs) inc (Memᴰ.tail m) f = absurd (false≢true (sym (below x (inc.0 v m)) ∙ f x (Memᴰ.head refl)))
