-- The letters of a set are taken one after the other, the lowest first, and what each gives is put together. Assumes nothing.
use mathlib.Core.Path.{◌≡◌, sym, ap, ◌∙◌}
use mathlib.Core.List.{List, map}
use Prim.Native.Nat.{ℕ, ◌-◌, ◌^◌}
use lib.Bits.{bit_or, or_zero_l, or_zero_r}
use Rattle.model.specs.Words.{bits, union}
use Rattle.laws.proofs.WordLaws.{or_assoc, zero_bits}
use Rattle.laws.proofs.BitsLaws.{bits-lowest}
use Rattle.words.specs.Ends.{Lowest}

-- r with what f gives for the letters of `rest`, which are still to come, is what f gives for those of w
pub record Gathering (f : ℕ → ℕ) (w rest r : ℕ) : Type 0 where
  pub whole : bit_or r (union (map f (bits rest))) ≡ union (map f (bits w))

module _ (f : ℕ → ℕ) (w : ℕ) where
  pub gathering_start : Gathering f w w 0
  gathering_start = record { whole = or_zero_l (union (map f (bits w))) }

  module _ (rest r : ℕ) (g : Gathering f w rest r) where
    pub gathering_step : (p : ℕ) → Lowest rest p → Gathering f w (rest - 2 ^ p) (bit_or r (f p))
    unfolding union
    gathering_step p low = record {
      whole =
          or_assoc r (f p) (union (map f (bits (rest - 2 ^ p))))
          ∙ ap (λ (bs : List ℕ). bit_or r (union (map f bs))) (sym (bits-lowest rest p low.small low.here low.below))
          ∙ g.whole;
    }

    pub gathering_end : rest ≡ 0 → r ≡ union (map f (bits w))
    unfolding union
    gathering_end e = sym (or_zero_r r) ∙ ap (λ (bs : List ℕ). bit_or r (union (map f bs))) (sym (ap bits e ∙ zero_bits)) ∙ g.whole
