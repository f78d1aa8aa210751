use Rattle.std.proofs.Common.{◌∙◌}
use Rattle.automata.proofs.MachineLaws.{unwrap_mark}
use Rattle.automata.proofs.mark.Goals as goal

pub returns : goal.returns
returns c = c.unwrap_or.ensures ∙ unwrap_mark c.args.m
