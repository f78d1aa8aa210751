use Rattle.std.proofs.Common.{rules}
use Rattle.duration.proofs.StretchLaws.{lengths-whole, lengths-parted}
use Rattle.duration.proofs.Spelling.lengths.Goals as goal

pub returns-then-whole-end : goal.returns-then-whole-end
returns-then-whole-end c = lengths-whole _ _ _ _ (search rules) _ _ c.low_mask.ensures c.low_mask-2.ensures c.if-whole-end.true

pub returns : goal.returns
returns c = lengths-parted _ _ _ _ (search rules) _ _ c.low_mask.ensures c.low_mask-2.ensures c.if-whole-end.false (search rules) (search rules) _ c.singleton.ensures
