use Rattle.model.specs.Reading.{reading}
use Rattle.cobleskeg.specs.Claims.{call_of}
use Rattle.cobleskeg.proofs.PerformLaws.{Called}
use Rattle.cobleskeg.proofs.perform.Given as goal

abbrev pub invariant-loop-n : goal.invariant-loop-n
invariant-loop-n l = Called (reading l.file) call_of l.list l.initial.table l.n-index l.table
