use Rattle.automata.proofs.MachineLaws.{next_gap, next-state}
use Rattle.automata.proofs.Automaton.next.Goals as goal

pub returns-then-to-eq63 : goal.returns-then-to-eq63
returns-then-to-eq63 c = next_gap _ _ c.args.self.whole _ _ c.requires.0 c.requires.1 c.if-to-eq63.true

pub returns : goal.returns
returns c = next-state _ _ c.args.self.whole _ _ c.requires.0 c.requires.1 c.if-to-eq63.false
