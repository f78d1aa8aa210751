use mathlib.Core.Path.{refl}
use Rattle.cobleskeg_c.specs.Version.{version}
use Rattle.cobleskeg_c.proofs.cobleskeg_version.Goals as goal

pub returns : goal.returns
unfolding version
returns c = refl
