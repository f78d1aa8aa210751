-- Two files by their bytes: P14's, with what the program prints for it, and one whose distances sum past 32 bits. Assumes nothing.
use Rattle.std.specs.Prelude.{ℕ, zero, suc, ◌-◌, ◌/◌, ◌%◌, ◌^◌}
use mathlib.Core.List.{List, [], ◌∷◌, ◌++◌, flat_map}
use Rattle.model.specs.Cases.{file14}

-- n bytes of a number, the lowest first
unfoldable pub bytes_of : ℕ → ℕ → List ℕ
bytes_of zero w = []
bytes_of (suc n) w = w % 256 ∷ bytes_of n (w / 256)

-- the table of 193 words, two records, no automata, and the trailer
unfoldable pub bytes14 : List ℕ
bytes14 =
    flat_map (bytes_of 8) file14.table
    ++ (4 ∷ 0 ∷ 1 ∷ 2 ∷ [])
    ++ (6 ∷ 0 ∷ 0 ∷ 0 ∷ [])
    ++ (2 ∷ 3 ∷ 1 ∷ 0 ∷ [])
    ++ bytes_of 2 2
    ++ bytes_of 2 0
    ++ bytes_of 4 1552
    ++ bytes_of 4 8
    ++ bytes_of 4 0
    ++ (84 ∷ 65 ∷ 73 ∷ 76 ∷ [])

-- P14: the listing of document 01, `found 2`, `s0 1 0`, `s1 1 1`, `s2 2 0 1`, `n0 1`
unfoldable pub lines14 : List ℕ
lines14 =
    (102 ∷ 111 ∷ 117 ∷ 110 ∷ 100 ∷ 32 ∷ 50 ∷ 10 ∷ [])
    ++ (115 ∷ 48 ∷ 32 ∷ 49 ∷ 32 ∷ 48 ∷ 10 ∷ [])
    ++ (115 ∷ 49 ∷ 32 ∷ 49 ∷ 32 ∷ 49 ∷ 10 ∷ [])
    ++ (115 ∷ 50 ∷ 32 ∷ 50 ∷ 32 ∷ 48 ∷ 32 ∷ 49 ∷ 10 ∷ [])
    ++ (110 ∷ 48 ∷ 32 ∷ 49 ∷ 10 ∷ [])

-- one record is promised, and an automata distance of 2^32 - 4: the constraints distance would be 2^32, and the field holds 0
unfoldable pub bytes_past : List ℕ
bytes_past = (1 ∷ 0 ∷ 0 ∷ 0 ∷ []) ++ bytes_of 2 1 ++ bytes_of 2 0 ++ bytes_of 4 0 ++ bytes_of 4 0 ++ bytes_of 4 (2 ^ 32 - 4) ++ (84 ∷ 65 ∷ 73 ∷ 76 ∷ [])
