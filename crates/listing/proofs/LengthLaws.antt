-- How long a line, and the lines of a solution, are at most. Assumes nothing.
use mathlib.Core.Path.{refl}
use mathlib.Core.List.Memᴰ
use mathlib.Core.List.{List, [], ◌∷◌, ◌++◌, flat_map}
use Prim.Native.Nat.{ℕ, suc, ◌+◌, ◌*◌, ◌≤◌, ◌<◌}
use native.Mathlib.Omega.{arith}
use native.Mathlib.Nat.{suc-mul}
use lib.ListN.{length, length-append}
use Rattle.model.specs.Lists.{upto}
use Rattle.model.specs.Constraints.{Choice, Problem}
use Rattle.model.specs.Solutions.{Fits}
use Rattle.laws.specs.Inclusion.{In}
use Rattle.laws.proofs.ListLaws.{of-upto, in_get_or}
use Rattle.laws.proofs.RowLaws.{Short}
use Rattle.model.specs.Listing.{decimal, field, line, string_line, number_line}
use Rattle.listing.proofs.NumeralLaws.{decimal-length}
use Rattle.listing.proofs.LineLaws.{upto-length}
use Rattle.listing.proofs.FoundLaws.{text-short, value-short, choice_lines}

flat_map-most : (f : ℕ → List ℕ) (most : ℕ) (xs : List ℕ) → ((x : ℕ) → In x xs → length (f x) ≤ most) → length (flat_map f xs) ≤ length xs * most
unfolding flat_map
flat_map-most f most [] h = omega arith
flat_map-most f most (x ∷ xs) h =
    let here = h x (Memᴰ.head refl) in
    let rest = flat_map-most f most xs (λ y m. h y (Memᴰ.tail m)) in
    omega (arith, length-append (f x) (flat_map f xs), suc-mul (length xs) most)

field-most : (n : ℕ) → n < 100 → length (field n) ≤ 3
unfolding field
field-most n h = let d = decimal-length 1 n h in omega arith

-- a line by its first field, its first number and the numbers behind it
line-most : (w : List ℕ) (n : ℕ) (u : List ℕ) → length (line w (n ∷ u)) ≤ length w + length (field n) + length (flat_map field u) + 1
unfolding line flat_map
line-most w n u =
    omega (arith, length-append w ((field n ++ flat_map field u) ++ (10 ∷ [])), length-append (field n ++ flat_map field u) (10 ∷ []), length-append (field n) (flat_map field u))

-- the first line: a word and a number of at most k + 1 digits
pub ending-most : (w : List ℕ) (k n : ℕ) → length (decimal n) ≤ suc k → length (line w (n ∷ [])) ≤ length w + k + 3
unfolding field flat_map
ending-most w k n h = let l = line-most w n [] in omega arith

-- 6 for `s15 63`, 3 for each of 63 symbols, and the newline
string-line-most : (x : ℕ) (u : List ℕ) → x < 100 → Short u → length (string_line x u) ≤ 196
unfolding string_line
string-line-most x u h s =
    let l = line-most (115 ∷ decimal x) (length u) u in
    let d = decimal-length 1 x h in
    let short = s.length-short in
    let f = field-most (length u) (omega arith) in
    let symbols = flat_map-most field 3 u (λ a m. let t = in_get_or u 0 m in field-most a (let k = s.symbols-short t.0 t.1 in let e = t.2 in omega arith)) in
    omega arith

-- `n15 63` with its newline
number-line-most : (x v : ℕ) → x < 100 → v < 64 → length (number_line x v) ≤ 7
unfolding number_line flat_map
number-line-most x v h k =
    let l = line-most (110 ∷ decimal x) v [] in
    let d = decimal-length 1 x h in
    let f = field-most v (omega arith) in
    omega arith

-- 16 * 196 + 16 * 7
pub choice-most : (P : Problem) (F : List ℕ) (α : Choice) → Fits P F α → P.strings ≤ 16 → P.numbers ≤ 16 → length (choice_lines P α) ≤ 3248
unfolding choice_lines
choice-most P F α fits s t =
    let strings = flat_map-most (λ x. string_line x (α.text x)) 196 (upto P.strings) (λ x m.
    let h = of-upto P.strings m in
    string-line-most x (α.text x) (omega arith) (text-short P F α fits x h)) in
    let numbers = flat_map-most (λ n. number_line n (α.value n)) 7 (upto P.numbers) (λ n m.
    let h = of-upto P.numbers m in
    number-line-most n (α.value n) (omega arith) (value-short P F α fits n h)) in
    omega (
      arith,
      length-append (flat_map (λ x. string_line x (α.text x)) (upto P.strings)) (flat_map (λ n. number_line n (α.value n)) (upto P.numbers)),
      upto-length P.strings,
      upto-length P.numbers,
    )
