use Rattle.std.proofs.Common.{rules}
use Rattle.automata.proofs.KindLaws.{partly_none, partly_end}
use Rattle.automata.proofs.Automaton.kinds.Goals as goal

pub loop-a-init : goal.loop-a-init
loop-a-init c = (partly_none _ _ _ c.args.self.few, search rules)

pub returns : goal.returns
returns c = partly_end _ _ _ c.args.self.few _ _ (search rules) c.loop-a.invariant.0
