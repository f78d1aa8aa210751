use Rattle.std.proofs.Common.{rules}
use Rattle.automata.proofs.MachineLaws.{mark-next}
use Rattle.automata.proofs.KindLaws.{same_move, alike_next}
use Rattle.automata.proofs.Automaton.same_column.Goals as goal

pub loop-p-preserved : goal.loop-p-preserved
loop-p-preserved c =
    let l = c.loop-p in
    alike_next _ _ _ _ l.invariant (same_move _ _ c.args.self.whole _ _ _ _ _ (search rules) c.requires.0 c.requires.1 (mark-next _ c.mark.ensures c.next.ensures.0)
    (mark-next _ c.mark-in-loop-p.ensures c.next-in-loop-p.ensures.0) c.if-mark.false)
