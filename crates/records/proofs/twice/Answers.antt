use Rattle.records.proofs.RecordLaws.{repeat-at-two, repeat-at-three, no-repeat}
use Rattle.records.proofs.twice.Goals as goal

pub returns-in-len2 : goal.returns-in-len2
returns-in-len2 c = repeat-at-two _ c.strings.result.now c.names.result.number (rw c.strings.ensures c.names.ensures.0) c.in-len2.len_at_least c.in-len2.len_below

pub returns-in-len3 : goal.returns-in-len3
returns-in-len3 c = repeat-at-three _ c.strings.result.now c.names.result.number (rw c.strings.ensures c.names.ensures.0) c.in-len3.len_at_least c.in-len3.len_below

pub returns-in_default : goal.returns-in_default
returns-in_default c = no-repeat _ c.strings.result.now c.names.result.number (rw c.strings.ensures c.names.ensures.0) c.in_default.len_below
