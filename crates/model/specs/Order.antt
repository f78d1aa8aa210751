-- The order of solutions (document 01, "The search tree", its second paragraph). Assumes nothing.
use Rattle.std.specs.Prelude.{◌≡◌, List, ◌⊎◌, length, get_or, ℕ, ◌<◌}
use Rattle.model.specs.Constraints.{Choice, Problem}
use Rattle.model.specs.Solutions.{Solution}

-- two choices that give the problem's variables the same
pub record Same (P : Problem) (α β : Choice) : Type 0 where
  pub same-texts : (x : ℕ) → x < P.strings → α.text x ≡ β.text x
  pub same-values : (n : ℕ) → n < P.numbers → α.value n ≡ β.value n

-- "strings by length, then by the first differing symbol, … lower ones first"
unfoldable pub TextBefore : List ℕ → List ℕ → Type 0
TextBefore w v =
    (length w < length v)
    ⊎ ((length w ≡ length v) × ((j : ℕ) × (j < length w) × ((i : ℕ) → i < j → get_or w i 0 ≡ get_or v i 0) × (get_or w j 0 < get_or v j 0)))

-- "Solutions are ordered by string 0, then string 1 and so on, then numbers; … numbers by value, lower ones first"
unfoldable pub Before : Problem → Choice → Choice → Type 0
Before P α β =
    ((x : ℕ) × (x < P.strings) × ((y : ℕ) → y < x → α.text y ≡ β.text y) × TextBefore (α.text x) (β.text x))
    ⊎ ((n : ℕ) × (n < P.numbers) × ((y : ℕ) → y < P.strings → α.text y ≡ β.text y) × ((m : ℕ) → m < n → α.value m ≡ β.value m) × (α.value n < β.value n))

-- the first solution within T: no other stands before it
pub record First (P : Problem) (T : List ℕ) (α : Choice) : Type 0 where
  pub solution : Solution P T α
  pub least : (β : Choice) → Solution P T β → Same P α β ⊎ Before P α β
