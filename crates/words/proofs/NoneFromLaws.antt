-- Words with no bit at k or above are the numbers below 2 ^ k. Assumes nothing.
use mathlib.Core.Path.{◌≡◌, refl, sym, ◌∙◌}
use mathlib.Core.Bool.{Bool, true, false, false≢true}
use Prim.Native.Nat.{ℕ, ◌-◌, ◌^◌, ◌<◌}
use native.Mathlib.Omega.{arith}
use lib.Dec.{leb, ltb}
use lib.Pow.{pow_pos}
use borrow.Author.Tests.{ltb-true, ltb-false, le-leb, lt-leb, lt-ltb}
use Rattle.model.specs.Words.{none_from}
use Rattle.laws.proofs.ListLaws.{in_all}
use Rattle.laws.proofs.WordLaws.{bit_high, of-bits, in_bits, none_from-bits}
use Rattle.laws.proofs.ShiftLaws.{low_word}

-- a number below 2 ^ k has no bit at k or above
pub below-none_from : (k w : ℕ) → w < 2 ^ k → none_from k w ≡ true
unfolding none_from
below-none_from k w h = in_all (λ b. ltb b k) _ (λ b m. lt-ltb b k (bit_high w k b h (of-bits w m).0))

-- and a word of 64 bits that has none is below 2 ^ k
pub none_from-below : (k w : ℕ) → w < 2 ^ 64 → none_from k w ≡ true → w < 2 ^ k
none_from-below k w h e = low_word k w (λ b q. none_from-bits k w e b (in_bits w b q (bit_high w 64 b h q)))

-- the test that the code makes
pub leb-none_from : (k w : ℕ) → w < 2 ^ 64 → leb w (2 ^ k - 1) ≡ none_from k w
leb-none_from k w h = go (none_from k w) refl
  where
    go : (t : Bool) → none_from k w ≡ t → leb w (2 ^ k - 1) ≡ t
    go true e = let l = none_from-below k w h e in le-leb w (2 ^ k - 1) (omega arith)
    go false e = lt-leb w (2 ^ k - 1) (ge (ltb w (2 ^ k)) refl)
      where
        ge : (t : Bool) → ltb w (2 ^ k) ≡ t → 2 ^ k - 1 < w
        ge true q = absurd (false≢true (sym e ∙ below-none_from k w (ltb-true w (2 ^ k) q)))
        ge false q = let l = ltb-false w (2 ^ k) q in omega (arith, pow_pos k)
