-- The text of a pattern, a list of bytes, and its rules (document 02, ticket 1). 40 and 41 are the round brackets, 42 is `*`, 124 is `|`. Assumes nothing.
use Rattle.std.specs.Prelude.{Bool, cond, ◌&&◌, ◌||◌, List, ℕ, zero, suc, ◌+◌, ◌*◌, ◌-◌, eqb, ltb, leb, length, get_or}
use Rattle.model.specs.Pattern.{Pattern, empty, letter, either, both, many}

-- "digits are symbols 0 to 9, `.` is 10, a to z are 11 to 36, `-` is 37, `/` is 38": the symbol of a byte, and 39 for a byte that is no letter
unfoldable pub symbol_of : ℕ → ℕ
symbol_of b =
    cond (leb 48 b && leb b 57) (b - 48) (cond (eqb b 46) 10 (cond (leb 97 b && leb b 122) (b - 86) (cond (eqb b 45) 37 (cond (eqb b 47) 38 39))))

-- the symbol at a place of the text
unfoldable pub symbol_at : List ℕ → ℕ → ℕ
symbol_at s p = symbol_of (get_or s p 0)

-- byte b stands at place p
unfoldable pub sees : List ℕ → ℕ → ℕ → Bool
sees s p b = ltb p (length s) && eqb (get_or s p 0) b

-- what is read from a place on: the pattern and the place after it, or nothing
pub data Parsed : Type 0 where
  bad : Parsed
  parsed : Pattern → ℕ → Parsed

-- what follows from a pattern that was read
unfoldable pub then_read : Parsed → (Pattern → ℕ → Parsed) → Parsed
then_read bad f = bad
then_read (parsed e p) f = f e p

-- "one `*` at most follows an item": the item that ends before place p
unfoldable pub starred : List ℕ → Pattern → ℕ → Parsed
starred s e p = cond (sees s p 42) (parsed (many e) (p + 1)) (parsed e p)

-- no item begins at this place: the text ends, or `|` or `)` stands there
unfoldable pub ended : List ℕ → ℕ → Bool
ended s p = leb (length s) p || eqb (get_or s p 0) 124 || eqb (get_or s p 0) 41

-- A pattern, a branch and an item that begin at a place. None of them is a part of its argument, so they recurse on a number that is large enough: with u
-- unread bytes 3u + 3 for a pattern, 3u + 2 for a branch, 3u + 1 for an item. `same-reading` of crates/patterns says that a larger one changes nothing.
unfoldable mutual
  -- "Branches are parted by `|`"
  pub pattern_at : ℕ → List ℕ → ℕ → Parsed
  pattern_at zero s p = bad
  pattern_at (suc n) s p = then_read (branch_at n s p) (λ e q.
      let more = then_read (pattern_at n s (q + 1)) (λ f r. parsed (either e f) r) in
      cond (sees s q 124) more (parsed e q))

  -- "items stand side by side", "an empty branch means the empty string"
  pub branch_at : ℕ → List ℕ → ℕ → Parsed
  branch_at zero s p = bad
  branch_at (suc n) s p =
      let more = then_read (item_at n s p) (λ e q. then_read (branch_at n s q) (λ f r. parsed (both e f) r)) in
      cond (ended s p) (parsed empty p) more

  -- a letter, or "a group in round brackets holds a whole pattern again"
  pub item_at : ℕ → List ℕ → ℕ → Parsed
  item_at zero s p = bad
  item_at (suc n) s p =
      let group = then_read (pattern_at n s (p + 1)) (λ e q. cond (sees s q 41) (starred s e (q + 1)) bad) in
      cond (eqb (get_or s p 0) 40) group (cond (ltb (symbol_at s p) 39) (starred s (letter p) (p + 1)) bad)

-- a text that is one pattern to its end
unfoldable pub parse : List ℕ → Parsed
parse s = then_read (pattern_at (3 * length s + 3) s 0) (λ e p. cond (eqb p (length s)) (parsed e p) bad)
