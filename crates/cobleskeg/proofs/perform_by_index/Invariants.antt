use Rattle.model.specs.Reading.{reading}
use Rattle.cobleskeg.specs.Claims.{call_by_index}
use Rattle.cobleskeg.proofs.PerformLaws.{Called}
use Rattle.cobleskeg.proofs.perform_by_index.Given as goal

abbrev pub invariant-loop-number : goal.invariant-loop-number
invariant-loop-number l = Called (reading l.file) (call_by_index l.index) l.list l.initial.table l.number-index l.table
