use Rattle.std.proofs.Common.{rules, take_all}
use Rattle.steps.proofs.TidyLaws.{next-inside}
use Rattle.striking.proofs.HoldingLaws.{lengths-turn, lengths-stop}
use Rattle.striking.proofs.have_lengths.Goals as goal

pub overflow_mul-x : goal.overflow_mul-x
overflow_mul-x c = let k = next-inside c.args.m.now _ c.requires c.strings-x-items.ensures c.loop-x.x-index (search rules) in search rules

pub offset_bounds-table-x : goal.offset_bounds-table-x
offset_bounds-table-x c = let k = next-inside c.args.m.now _ c.requires c.strings-x-items.ensures c.loop-x.x-index (search rules) in search rules

pub bounds-table-x : goal.bounds-table-x
bounds-table-x c = let k = next-inside c.args.m.now _ c.requires c.strings-x-items.ensures c.loop-x.x-index (search rules) in search rules

pub returns-then-table-x-eq0 : goal.returns-then-table-x-eq0
returns-then-table-x-eq0 c = rw c.strings-x-items.ensures at (lengths-stop _ c.strings-x-items.result.now c.loop-x.x-index (search rules) c.if-table-x-eq0.true)

pub loop-x-preserved : goal.loop-x-preserved
loop-x-preserved c = lengths-turn _ c.strings-x-items.result.now c.loop-x.x-index (search rules) c.if-table-x-eq0.false c.loop-x.invariant

pub returns : goal.returns
returns c = rw (take_all c.loop-x.x-index c.strings-x-items.result.now (search rules), c.strings-x-items.ensures) at c.loop-x.invariant
