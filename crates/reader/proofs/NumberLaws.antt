-- A number of at most four bytes, made from its last byte back: each byte more is the lowest so far, and the number fits. A number of one byte is that byte.
-- Assumes nothing.
use mathlib.Core.Path.{◌≡◌, refl, sym, ap, ◌∙◌, subst}
use mathlib.Core.List.{List, [], ◌∷◌, ◌++◌}
use Prim.Native.Nat.{ℕ, zero, suc, ◌+◌, ◌*◌, ◌≤◌, ◌<◌, ◌^◌}
use native.Mathlib.Omega.{arith}
use lib.ListN.{length, get_or, drop, length-append}
use Rattle.model.specs.Layout.{Bytes, little, part}
use Rattle.laws.proofs.ReadingLaws.{little_lt, take-bytes, drop-bytes}
use Rattle.laws.proofs.LayoutLaws.{part_length}
use Rattle.little.proofs.LittleLaws.{little-next}
use Rattle.std.proofs.lemmas.List.{append_assoc, append-nil}
use Rattle.std.proofs.Math.Seq.{take-length, drop-append_seam, get_or-append_seam}

-- of these bytes only the last ones are read, and r is their number: `rest` is before them
pub record ReadBack (seen rest : List ℕ) (r : ℕ) : Type 0 where
  pub read : List ℕ
  pub whole : rest ++ read ≡ seen
  pub value : r ≡ little read

-- no byte is read yet
pub back_start : (seen rest : List ℕ) → rest ≡ seen → ReadBack seen rest 0
unfolding little
back_start seen rest e = record { read = []; whole = append-nil rest ∙ e; value = refl }

-- one byte more
pub back_step : (seen rest left : List ℕ) (b r : ℕ) → ReadBack seen rest r → rest ≡ left ++ b ∷ [] → ReadBack seen left (b + 256 * r)
unfolding little
back_step seen rest left b r s e = record {
  read = b ∷ s.read;
  whole = sym (append_assoc left (b ∷ []) s.read) ∙ ap (λ (xs : List ℕ). xs ++ s.read) (sym e) ∙ s.whole;
  value = ap (λ (n : ℕ). b + 256 * n) s.value;
}

-- three bytes or fewer leave room for one more
room : (i : ℕ) → i ≤ 3 → 256 ^ i ≤ 16777216
room zero few = omega arith
room (suc zero) few = omega arith
room (suc (suc zero)) few = omega arith
room (suc (suc (suc zero))) few = omega arith
room (suc (suc (suc (suc i)))) few = absurd (omega arith)

-- where a byte of at most four is left, it fits beside the number so far
pub back-small : (at n : ℕ) (bs rest left : List ℕ) (b r : ℕ) → ReadBack (part at n bs) rest r → Bytes bs → at + n ≤ length bs → n ≤ 4
    → rest ≡ left ++ b ∷ [] → b + 256 * r < 4294967296
back-small at n bs rest left b r s small long few e =
    let seen = part at n bs in
    let bytes : Bytes seen = take-bytes n (drop at bs) (drop-bytes at bs small) in
    let kept = drop-append_seam rest s.read in
    let own : Bytes s.read = subst (λ (xs : List ℕ). Bytes xs) (ap (λ (xs : List ℕ). drop (length rest) xs) (sym s.whole) ∙ kept) (drop-bytes (length rest) seen bytes) in
    let three : length s.read ≤ 3 =
    omega (arith, ap length s.whole, ap length e, length-append rest s.read, length-append left (b ∷ []), part_length at n bs long) in
    let below = subst (λ (xs : List ℕ). little xs < 256 ^ length s.read) (take-length s.read) (little_lt (length s.read) s.read own) in
    let last : get_or seen (length left) 0 ≡ b =
    ap (λ (xs : List ℕ). get_or xs (length left) 0) (sym s.whole ∙ ap (λ (xs : List ℕ). xs ++ s.read) e ∙ append_assoc left (b ∷ []) s.read)
    ∙ get_or-append_seam left b s.read 0 in
    omega (arith, room (length s.read) three, below, s.value, last, bytes (length left))

-- a number of one byte is the byte
pub little-one : (at : ℕ) (bs : List ℕ) → little (part at 1 bs) ≡ get_or bs at 0
unfolding little
little-one at bs = omega (arith, little-next at 0 bs)
