use Rattle.std.proofs.Common.{rules, refl}
use Rattle.automata.proofs.KindLaws.{lacking-lacks}
use Rattle.regular.proofs.AskLaws.{turned-targets, forwards_kinds}
use Rattle.regular.proofs.successors.Goals as goal

pub steps_to-requires : goal.steps_to-requires
steps_to-requires c = (
  rw c.lacking-lacking.ensures (lacking-lacks _ _ _ _ c.args.asked.automaton.few c.requires.0.kinds),
  turned-targets _ c.requires.0 _ _ _ c.turn.ensures c.requires.2.keeps,
)

pub returns : goal.returns
returns c = (forwards_kinds _ c.requires.0 _ _ _ c.turn.ensures c.requires.1 (search rules) _ _ _ c.steps_to.ensures, refl, refl)
