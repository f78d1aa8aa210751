use Rattle.std.proofs.Common.{rules}
use Rattle.regular.proofs.AskLaws.{turned-targets, turned-low, backwards_kinds}
use Rattle.regular.proofs.keep.Goals as goal

pub steps_back-steps-requires : goal.steps_back-steps-requires
steps_back-steps-requires c =
    let f = c.turn.ensures in
    (turned-low _ c.requires.0 _ _ _ f c.requires.1 (search rules), turned-targets _ c.requires.0 _ _ _ f c.requires.2.keeps)

pub returns : goal.returns
returns c =
    let k = backwards_kinds _ c.requires.0 _ _ _ c.turn.ensures c.requires.1 (search rules) _ _ _ _ _ _ c.steps_back-steps.ensures c.all_of.ensures in
    (k, k.steps)
