-- What a constraint names as places of a table: its strings, and the word of its number; and what is made of these places. Assumes nothing.
use Rattle.std.specs.Prelude.{◌≡◌, ◌≢◌, Bool, true, false, List, ◌++◌, map, ℕ, ◌+◌, ◌*◌, ◌<◌, ◌≤◌, length, take}
use Rattle.model.specs.Words.{word, Words}
use Rattle.model.specs.Domains.{Variable, str, num, row}
use Rattle.model.specs.Constraints.{Problem, Constraint, variables, width}
use Rattle.model.specs.Solutions.{InRange}
use Rattle.model.specs.Support.{narrowed}
use Rattle.laws.specs.Inclusion.{In, Below}
use Rattle.inplace.specs.InTable.{Tidy, Out}
use Rattle.std.specs.Option.{option_to_list}
use Rattle.records.specs.declared.names.Names.{Names}
use Rattle.steps.specs.Step.{cleared}

-- the strings that are named, and the words of numbers
abbrev pub texts : Names → List ℕ
texts m = take m.count m.strings

abbrev pub numbers : Names → List ℕ
numbers m = option_to_list m.number

-- m is what c names in a table of s strings: strings, then numbers
pub record Naming (s : ℕ) (c : Constraint) (m : Names) : Type 0 where
  pub values : List ℕ
  pub words : numbers m ≡ map (λ n. 64 * s + n) values
  pub names : variables c ≡ map str (texts m) ++ map num values

-- they lie inside the table, the words past the rows
pub record Inside (m : Names) (T : List ℕ) : Type 0 where
  pub rows : (x : ℕ) → In x (texts m) → 64 * x + 64 ≤ length T
  pub words : (i : ℕ) → In i (numbers m) → i < length T
  pub past : (x : ℕ) → In x (texts m) → (i : ℕ) → In i (numbers m) → 64 * x + 64 ≤ i

-- The rows of the strings xs were made tidy one after the other, as long as each has a value. No other word differs; what names these strings narrows the table to the
-- same as before, and strikes every bit of what it names where one of them has no value.
pub record Tidies (xs T U : List ℕ) (all : Bool) : Type 0 where
  pub size : length U ≡ length T
  pub others : (k : ℕ) → ((x : ℕ) → In x xs → Out x k) → word U k ≡ word T k
  pub tidy : all ≡ true → (x : ℕ) → In x xs → Tidy (row U x)
  pub below : (P : Problem) → length T ≡ width P → ((x : ℕ) → In x xs → x < P.strings) → Below U T
  pub same : (P : Problem) (c : Constraint) → length T ≡ width P → ((v : Variable) → In v (variables c) → InRange P v) → ((x : ℕ) → In x xs → In (str x) (variables c))
      → narrowed P c U ≡ narrowed P c T
  pub none : all ≡ false → (P : Problem) (c : Constraint) → length T ≡ width P → Words T → ((v : Variable) → In v (variables c) → InRange P v)
      → ((x : ℕ) → In x xs → In (str x) (variables c)) → cleared P c U ≡ narrowed P c U

-- every bit of the strings xs and of the words is was struck, and no other
pub record Blanked (xs is T U : List ℕ) : Type 0 where
  pub size : length U ≡ length T
  pub rows : (x : ℕ) → In x xs → (j : ℕ) → j < 64 → word U (64 * x + j) ≡ 0
  pub words : (i : ℕ) → In i is → word U i ≡ 0
  pub others : (k : ℕ) → ((x : ℕ) → In x xs → Out x k) → ((i : ℕ) → In i is → k ≢ i) → word U k ≡ word T k
