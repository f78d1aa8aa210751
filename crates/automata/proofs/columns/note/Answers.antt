use Rattle.automata.proofs.KindLaws.{noted_more}
use Rattle.automata.proofs.columns.note.Goals as goal

pub returns-then-missing : goal.returns-then-missing
returns-then-missing c = noted_more _ _ _ c.requires
