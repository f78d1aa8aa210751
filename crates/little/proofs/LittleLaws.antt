-- Numbers made of bytes, byte by byte and part after part: past the end a byte counts as 0. Assumes nothing.
use mathlib.Core.Path.{◌≡◌, refl}
use mathlib.Core.List.{List, [], ◌∷◌}
use Prim.Native.Nat.{ℕ, zero, suc, ◌+◌, ◌*◌}
use native.Mathlib.Omega.{arith}
use lib.ListN.{length, get_or}
use lib.Seq.{take-nil, drop-nil}
use Rattle.std.specs.Int.{from_le_bytes, w16, w32, w64}
use Rattle.model.specs.Layout.{little, part}

-- the byte at i, and the n bytes after it
pub little-next : (i n : ℕ) (bs : List ℕ) → little (part i (suc n) bs) ≡ get_or bs i 0 + 256 * little (part (suc i) n bs)
unfolding little
little-next i n [] = rw (drop-nil i, take-nil n) refl
little-next zero n (b ∷ bs) = refl
little-next (suc i) n (b ∷ bs) = little-next i n bs

-- what std makes of two, four and eight bytes
pub little-bytes_2 : (bs : List ℕ) → length bs ≡ 2 → from_le_bytes w16 bs ≡ little bs
unfolding little
little-bytes_2 [] l = absurd (omega arith)
little-bytes_2 (a ∷ []) l = absurd (omega arith)
little-bytes_2 (a ∷ b ∷ []) l = omega arith
little-bytes_2 (a ∷ b ∷ c ∷ bs) l = absurd (omega arith)

pub little-bytes_4 : (bs : List ℕ) → length bs ≡ 4 → from_le_bytes w32 bs ≡ little bs
unfolding little
little-bytes_4 [] l = absurd (omega arith)
little-bytes_4 (a ∷ []) l = absurd (omega arith)
little-bytes_4 (a ∷ b ∷ []) l = absurd (omega arith)
little-bytes_4 (a ∷ b ∷ c ∷ []) l = absurd (omega arith)
little-bytes_4 (a ∷ b ∷ c ∷ d ∷ []) l = omega arith
little-bytes_4 (a ∷ b ∷ c ∷ d ∷ e ∷ bs) l = absurd (omega arith)

pub little-bytes_8 : (bs : List ℕ) → length bs ≡ 8 → from_le_bytes w64 bs ≡ little bs
unfolding little
little-bytes_8 [] l = absurd (omega arith)
little-bytes_8 (a ∷ []) l = absurd (omega arith)
little-bytes_8 (a ∷ b ∷ []) l = absurd (omega arith)
little-bytes_8 (a ∷ b ∷ c ∷ []) l = absurd (omega arith)
little-bytes_8 (a ∷ b ∷ c ∷ d ∷ []) l = absurd (omega arith)
little-bytes_8 (a ∷ b ∷ c ∷ d ∷ e ∷ []) l = absurd (omega arith)
little-bytes_8 (a ∷ b ∷ c ∷ d ∷ e ∷ f ∷ []) l = absurd (omega arith)
little-bytes_8 (a ∷ b ∷ c ∷ d ∷ e ∷ f ∷ g ∷ []) l = absurd (omega arith)
little-bytes_8 (a ∷ b ∷ c ∷ d ∷ e ∷ f ∷ g ∷ h ∷ []) l = omega arith
little-bytes_8 (a ∷ b ∷ c ∷ d ∷ e ∷ f ∷ g ∷ h ∷ i ∷ bs) l = absurd (omega arith)
