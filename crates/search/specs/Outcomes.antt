-- What the outcome of a search says in the model's words, and how it is printed. Assumes nothing.
use Rattle.std.specs.Prelude.{ℕ, List, ◌++◌, codes}
use Rattle.std.specs.Fmt.{decimal}
use Rattle.model.specs.Tree as model
use Rattle.search.specs.declared.Outcome.{Outcome}
use Rattle.search.specs.declared.Outcome.TheVariants.{Found, None, Spent}

unfoldable pub outcome_of : Outcome → model.Outcome
outcome_of (Found n) = model.found n
outcome_of (None n) = model.none n
outcome_of (Spent n) = model.spent n

-- how it ended, and the nodes that it visited
abbrev pub printed : Outcome → List ℕ
printed (Found n) = codes "found " ++ decimal n
printed (None n) = codes "none " ++ decimal n
printed (Spent n) = codes "spent " ++ decimal n
