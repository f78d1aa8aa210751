use Rattle.list.proofs.CopyLaws.{Copied}
use Rattle.list.proofs.of_file.Given as goal

abbrev pub invariant-loop-j : goal.invariant-loop-j
invariant-loop-j l = Copied l.p l.j l.records
