use Rattle.std.proofs.Common.{rules}
use Rattle.automata.proofs.KindLaws.{kind_start, kind_add}
use Rattle.automata.proofs.Automaton.alike.Goals as goal
use Rattle.automata.proofs.Automaton.alike.Goals.{else-same_column, then-same_column}

pub loop-b-init : goal.loop-b-init
loop-b-init c = kind_start _ _ _ _ _ (search rules) c.singleton-r.ensures

pub loop-b-preserved : goal.loop-b-preserved
loop-b-preserved c =
    let g = c.loop-b.invariant in
    elim c.if-same_column.branch [
      | then-same_column w ↦ rw w.r-is (kind_add _ _ _ _ _ _ _ g c.loop-b-test.true (c.same_column.ensures w.if-same_column.true) w.singleton-r-then-same_column.ensures)
      | else-same_column w ↦ rw w.r-is g
    ]
