-- Laws of the lines of a table by its words: the parts of a lent table are its rows and its number words. Assumes nothing.
use mathlib.Core.Path.{◌≡◌, sym, ap, ◌∙◌}
use mathlib.Core.List.{List, ◌∷◌, map}
use Prim.Native.Nat.{ℕ, ◌+◌, ◌-◌, ◌*◌, ◌≤◌, ◌<◌}
use native.Mathlib.Omega.{arith}
use lib.ListN.{length, get_or, take, drop, length-map, length-drop}
use lib.Seq.{length-take-le, take_all}
use Rattle.model.specs.Domains.{row}
use Rattle.laws.proofs.DomainLaws.{row_word, row-length}
use Rattle.model.specs.Listing.{decimal, line, string_line}
use Rattle.listing.specs.declared.Page.{Page}
use Rattle.listing.specs.Writing.{Capacity}
use Rattle.listing.specs.TableLines.{only_value, text_of, Lengths}

-- the line of a row, in the parts in which it is written
pub string-parts : (r : List ℕ) (x n : ℕ) → n ≡ only_value (get_or r 0 0) → length r ≡ 64 → only_value (get_or r 0 0) < 64
    → string_line x (text_of r) ≡ line (115 ∷ decimal x) (n ∷ map only_value (take (n + 1 - 1) (drop 1 r)))
unfolding string_line text_of
string-parts r x n e size short =
    let k : n + 1 - 1 ≡ only_value (get_or r 0 0) = omega arith in
    let count : length (map only_value (take (only_value (get_or r 0 0)) (drop 1 r))) ≡ n =
    length-map (take (only_value (get_or r 0 0)) (drop 1 r)) only_value ∙ length-take-le (only_value (get_or r 0 0)) (drop 1 r) (omega (arith, length-drop 1 r)) ∙ sym e in
    rw (count, k)

-- what the line of a row asks, for its parts
pub string_capacity : (r : List ℕ) (x n : ℕ) → n ≡ only_value (get_or r 0 0) → {p : Page}
    → (length r ≡ 64) × (only_value (get_or r 0 0) < 64) × Capacity p (string_line x (text_of r)) → Capacity p (line (115 ∷ decimal x) (n ∷ map only_value (take (n + 1 - 1) (drop 1 r))))
string_capacity r x n e pre = rw (string-parts r x n e pre.0 pre.1) at pre.2

row-part : (T : List ℕ) (x : ℕ) → take (64 * x + 64 - 64 * x) (drop (64 * x) T) ≡ row T x
unfolding row
row-part T x = let e : 64 * x + 64 - 64 * x ≡ 64 = omega arith in ap (λ (n : ℕ). take n (drop (64 * x) T)) e

-- what the line of a row asks of its part of the table
pub part-ready : (T : List ℕ) (s x : ℕ) → 64 * s ≤ length T → x < s → Lengths T s → {p : Page} → Capacity p (string_line x (text_of (row T x)))
    → (length (take (64 * x + 64 - 64 * x) (drop (64 * x) T)) ≡ 64)
    × (only_value (get_or (take (64 * x + 64 - 64 * x) (drop (64 * x) T)) 0 0) < 64)
    × Capacity p (string_line x (text_of (take (64 * x + 64 - 64 * x) (drop (64 * x) T))))
part-ready T s x h k short capacity =
    let e : 64 * x + 0 ≡ 64 * x = omega arith in
    rw (row-part T x) (row-length T x (omega arith), rw (row_word T x 0 (omega arith), e) (short x k), capacity)

pub part-text : (T : List ℕ) (x : ℕ) → string_line x (text_of (take (64 * x + 64 - 64 * x) (drop (64 * x) T))) ≡ string_line x (text_of (row T x))
part-text T x = ap (λ (r : List ℕ). string_line x (text_of r)) (row-part T x)

-- the part of a table from index k on
pub rest_part : (T : List ℕ) (k : ℕ) → take (length T - k) (drop k T) ≡ drop k T
rest_part T k = take_all (length T - k) (drop k T) (omega (arith, length-drop k T))
