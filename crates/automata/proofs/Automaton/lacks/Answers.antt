use Rattle.std.proofs.Common.{not, ap, ◌∙◌}
use Rattle.automata.proofs.KindLaws.{total-next}
use Rattle.automata.proofs.Automaton.lacks.Goals as goal

pub loop-p-preserved : goal.loop-p-preserved
loop-p-preserved c = total-next _ _ _ _ c.loop-p.invariant c.next.ensures.0 (c.is_none.ensures ∙ ap not c.if-is_none.false)
