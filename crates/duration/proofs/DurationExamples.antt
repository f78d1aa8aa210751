-- Durations by playlist version, worked out by hand (document 02, ticket 6). Assumes nothing.
use Rattle.std.specs.Prelude.{◌≡◌, refl, true, false, ℕ, replicate}
use mathlib.Core.List.{List, [], ◌∷◌, ◌++◌}
use Rattle.model.specs.Lists.{any, all, from, upto}
use Rattle.duration.specs.Durations.{is_digit, digits, point_at, is_duration}

-- so many digits
abbrev nines : ℕ → List ℕ
nines n = replicate n 9

-- "For 1 and 2, X is 1 to 20 digits."
pub whole :
    (is_duration 1 [] ≡ false) × (is_duration 1 (nines 1) ≡ true) × (is_duration 1 (nines 20) ≡ true) × (is_duration 1 (nines 21) ≡ false) ×
    (is_duration 2 [] ≡ false) × (is_duration 2 (nines 1) ≡ true) × (is_duration 2 (nines 20) ≡ true) × (is_duration 2 (nines 21) ≡ false) ×
    (is_duration 2 (1 ∷ 10 ∷ 1 ∷ []) ≡ false)
unfolding is_duration point_at digits is_digit any all upto from
whole = (refl, refl, refl, refl, refl, refl, refl, refl, refl)

-- "From 3 on, X is one or more digits, then optionally symbol 10 and one or more digits.": `1.`, `.1`, `1.1`, `1.1.1`, a point alone, and symbol 11 for the point
pub parted :
    (is_duration 3 [] ≡ false) × (is_duration 3 (nines 1) ≡ true) × (is_duration 3 (nines 21) ≡ true) × (is_duration 3 (nines 63) ≡ true) ×
    (is_duration 3 (nines 21 ++ 10 ∷ nines 21) ≡ true) × (is_duration 3 (1 ∷ 10 ∷ []) ≡ false) × (is_duration 3 (10 ∷ 1 ∷ []) ≡ false) ×
    (is_duration 3 (1 ∷ 10 ∷ 1 ∷ []) ≡ true) × (is_duration 3 (1 ∷ 10 ∷ 1 ∷ 10 ∷ 1 ∷ []) ≡ false) × (is_duration 3 (10 ∷ []) ≡ false) ×
    (is_duration 3 (1 ∷ 11 ∷ 1 ∷ []) ≡ false) × (is_duration 255 (1 ∷ 10 ∷ 1 ∷ []) ≡ true) × (is_duration 255 (nines 21) ≡ true)
unfolding is_duration point_at digits is_digit any all upto from
parted = (refl, refl, refl, refl, refl, refl, refl, refl, refl, refl, refl, refl, refl)
