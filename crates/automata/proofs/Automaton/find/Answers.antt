use Rattle.automata.proofs.KindLaws.{partly_found}
use Rattle.automata.proofs.Automaton.find.Goals as goal

pub returns : goal.returns
returns c =
    partly_found _ _ _ c.args.self.few _ _ c.requires.2 _ _ _ _ c.alike-w.ensures c.spread.ensures c.lacks.ensures c.note.ensures c.requires.0
