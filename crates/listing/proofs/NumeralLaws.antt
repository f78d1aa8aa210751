-- Laws of decimal numerals: the equation a reader expects, and how many digits there are at most. Assumes nothing.
use mathlib.Core.Path.{◌≡◌, refl, ap}
use mathlib.Core.Bool.{Bool, true, false, cond}
use mathlib.Core.List.{List, [], ◌∷◌, ◌++◌}
use Prim.Native.Nat.{ℕ, zero, suc, ◌*◌, ◌/◌, ◌%◌, ◌^◌, ◌≤◌, ◌<◌}
use native.Mathlib.Omega.{arith}
use native.Mathlib.Nat.{pow-suc}
use lib.Dec.{ltb}
use lib.ListN.{length, length-append}
use borrow.Author.Tests.{ltb-true, ltb-false, lt-ltb, le-ltb}
use Rattle.model.specs.Listing.{digit, decimal_in, decimal}
use Rattle.listing.specs.declared.Page.{Page}
use Rattle.listing.specs.Writing.{Capacity, Wrote}
use Rattle.listing.proofs.WritingLaws.{wrote_append, capacity_first, capacity_rest}

-- any number above n is enough digits for n
enough : (f g n : ℕ) → n < f → n < g → decimal_in f n ≡ decimal_in g n
unfolding decimal_in
enough zero g n h k = absurd (omega arith)
enough (suc f) zero n h k = absurd (omega arith)
enough (suc f) (suc g) n h k = go (ltb n 10) refl (λ p q. enough f g (n / 10) p q)
  where
    go : (b : Bool) → ltb n 10 ≡ b → (n / 10 < f → n / 10 < g → decimal_in f (n / 10) ≡ decimal_in g (n / 10))
        → cond b (digit n ∷ []) (decimal_in f (n / 10) ++ (digit (n % 10) ∷ [])) ≡ cond b (digit n ∷ []) (decimal_in g (n / 10) ++ (digit (n % 10) ∷ []))
    go true e r = refl
    go false e r = let l = ltb-false n 10 e in ap (λ (d : List ℕ). d ++ (digit (n % 10) ∷ [])) (r (omega arith) (omega arith))

pub decimal-small : (n : ℕ) → n < 10 → decimal n ≡ digit n ∷ []
unfolding decimal decimal_in
decimal-small n h = rw (lt-ltb n 10 h)

pub decimal-large : (n : ℕ) → 10 ≤ n → decimal n ≡ decimal (n / 10) ++ (digit (n % 10) ∷ [])
unfolding decimal decimal_in
decimal-large n h = rw (le-ltb n 10 h) (ap (λ (d : List ℕ). d ++ (digit (n % 10) ∷ [])) (enough n (suc (n / 10)) (n / 10) (omega arith) (omega arith)))

pub decimal_step : (n : ℕ) → decimal n ≡ cond (ltb n 10) (digit n ∷ []) (decimal (n / 10) ++ (digit (n % 10) ∷ []))
decimal_step n = go (ltb n 10) refl
  where
    go : (b : Bool) → ltb n 10 ≡ b → decimal n ≡ cond b (digit n ∷ []) (decimal (n / 10) ++ (digit (n % 10) ∷ []))
    go true e = decimal-small n (ltb-true n 10 e)
    go false e = decimal-large n (ltb-false n 10 e)

-- a number below 10 ^ (k + 1) has at most k + 1 digits
pub decimal-length : (k n : ℕ) → n < 10 ^ suc k → length (decimal n) ≤ suc k
decimal-length zero n h = rw (decimal-small n h) (omega arith)
decimal-length (suc k) n h = go (ltb n 10) refl (λ q. decimal-length k (n / 10) q)
  where
    go : (b : Bool) → ltb n 10 ≡ b → (n / 10 < 10 ^ suc k → length (decimal (n / 10)) ≤ suc k) → length (decimal n) ≤ suc (suc k)
    go true e r = rw (decimal-small n (ltb-true n 10 e)) (omega arith)
    go false e r =
        let p : n < 10 ^ suc k * 10 = rw (pow-suc 10 (suc k)) at h in
        let q = r (omega arith) in
        rw (decimal-large n (ltb-false n 10 e)) (omega (arith, length-append (decimal (n / 10)) (digit (n % 10) ∷ [])))

-- ---- numerals written

-- of a number below 10 there is the last digit alone
module _ {p : Page} (n : ℕ) (h : n < 10) where
  pub one_capacity : (b : ℕ) → Capacity p (decimal n) → Capacity p (b ∷ [])
  one_capacity b r = let d : Capacity p (digit n ∷ []) = rw (decimal-small n h) at r in record { fits = d.fits }

  pub one-numeral : {q : Page} → Wrote p (digit (n % 10) ∷ []) q → Wrote p (decimal n) q
  one-numeral w = let e : n % 10 ≡ n = omega arith in rw (decimal-small n h) (rw e at w)

module _ {p : Page} (n : ℕ) (h : 10 ≤ n) where
  pub tenth_capacity : Capacity p (decimal n) → Capacity p (decimal (n / 10))
  tenth_capacity r = capacity_first (decimal (n / 10)) (digit (n % 10) ∷ []) (rw (decimal-large n h) at r)

  module _ {q : Page} (w : Wrote p (decimal (n / 10)) q) where
    pub digit_capacity : (b : ℕ) → Capacity p (decimal n) → Capacity q (b ∷ [])
    digit_capacity b r = let d = capacity_rest w (digit (n % 10) ∷ []) (rw (decimal-large n h) at r) in record { fits = d.fits }

    pub long-numeral : {z : Page} → Wrote q (digit (n % 10) ∷ []) z → Wrote p (decimal n) z
    long-numeral v = rw (decimal-large n h) (wrote_append w v)
