-- Solutions, and what they use (document 01, "Constraints", its last paragraph). Assumes nothing.
use Rattle.std.specs.Prelude.{◌≡◌, true, cond, ltb, leb, length, get_or, ℕ, zero, suc, ◌-◌, ◌*◌, ◌/◌, ◌%◌, ◌^◌, ◌<◌}
use mathlib.Core.List.{List, Memᴰ, map}
use Rattle.model.specs.Lists.{upto}
use Rattle.model.specs.Domains.{Variable, str, num, strings_of, values_of}
use Rattle.model.specs.Constraints.{Choice, Constraint, Problem, width, meets, variables}

-- "picks one string or number from each domain": of the table T
pub record Fits (P : Problem) (T : List ℕ) (α : Choice) : Type 0 where
  pub texts_in : (x : ℕ) → x < P.strings → Memᴰ (α.text x) (strings_of T x)
  pub values_in : (n : ℕ) → n < P.numbers → Memᴰ (α.value n) (values_of P.strings T n)

-- "a solution within some table picks from that table's domains", "and meets all constraints"
pub record Solution (P : Problem) (T : List ℕ) (α : Choice) : Type 0 where
  pub fits : Fits P T α
  pub met : (c : Constraint) → Memᴰ c P.constraints → meets P c α ≡ true

-- "It uses the length of each of its strings, the symbol at each of their places": the bits that a string uses in word i of its row
unfoldable pub text_bit : List ℕ → ℕ → ℕ
text_bit w zero = 2 ^ length w
text_bit w (suc j) = cond (leb (suc j) (length w)) (2 ^ get_or w j 0) 0

-- "and its numbers' values": the bits that a choice uses in word i of a table of s strings
unfoldable pub used : ℕ → Choice → ℕ → ℕ
used s γ i = cond (ltb i (64 * s)) (text_bit (γ.text (i / 64)) (i % 64)) (2 ^ (γ.value (i - 64 * s)))

-- the table that holds just a choice: "one length bit, one symbol bit per place, all else 0"
unfoldable pub table_of : Problem → Choice → List ℕ
table_of P γ = map (used P.strings γ) (upto (width P))

-- a variable of the problem
abbrev pub InRange : Problem → Variable → Type 0
InRange P (str x) = x < P.strings
InRange P (num n) = n < P.numbers

-- every constraint names variables of the problem
abbrev pub WellFormed : Problem → Type 0
WellFormed P = (c : Constraint) → Memᴰ c P.constraints → (v : Variable) → Memᴰ v (variables c) → InRange P v
