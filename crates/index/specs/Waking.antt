-- What a step wakes: the constraints that name a variable that it changed. Assumes nothing.
use Rattle.std.specs.Prelude.{Bool, true, false, List, [], ◌∷◌}
use Rattle.model.specs.Domains.{Variable}

-- the variables that changed, where the flags say which of them did; where a list ends nothing more is kept
unfoldable pub moved : List Variable → List Bool → List Variable
moved [] fs = []
moved (v ∷ vs) [] = []
moved (v ∷ vs) (false ∷ fs) = moved vs fs
moved (v ∷ vs) (true ∷ fs) = v ∷ moved vs fs
