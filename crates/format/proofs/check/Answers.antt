use Rattle.format.proofs.LentPartLaws.{five, six, seven-or-eight}
use Rattle.format.proofs.check.Goals as goal

pub returns-then-not-all_whole : goal.returns-then-not-all_whole
returns-then-not-all_whole c = five _ _ c.requires _ c.all_whole.ensures c.if-not-all_whole.true

pub returns-then-not-file_low : goal.returns-then-not-file_low
returns-then-not-file_low c =
    six _ _ c.requires _ c.all_whole.ensures _ c.file_low.ensures c.if-not-all_whole.false c.if-not-file_low.true

pub returns : goal.returns
returns c =
    seven-or-eight _ _ c.requires _ c.all_whole.ensures _ c.file_low.ensures c.if-not-all_whole.false _ c.check.ensures
    c.if-not-file_low.false
