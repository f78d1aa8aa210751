use Rattle.steps.proofs.RegularTableLaws.{kinds_asks}
use mathlib.Core.Path.{refl}
use Rattle.steps.proofs.kinds.Goals as goal

pub kinds-requires : goal.kinds-requires
kinds-requires c = rw c.automata_bytes.ensures (let a = kinds_asks c.args.p.now in (a.0, a.1, a.2, rw c.requires refl))
