use Rattle.std.proofs.Common.{rules, refl, take_all}
use Rattle.steps.proofs.TidyLaws.{next-inside}
use Rattle.steps.proofs.NamingLaws.{number-inside}
use Rattle.striking.proofs.HoldingLaws.{holds-turn, holds-last}
use Rattle.striking.proofs.holds.Goals as goal

pub overflow_mul-some : goal.overflow_mul-some
overflow_mul-some c = let k = next-inside c.args.m.now _ c.requires c.strings-x-items.ensures c.loop-x.x-index (search rules) in search rules

pub offset_bounds-table-x : goal.offset_bounds-table-x
offset_bounds-table-x c = let k = next-inside c.args.m.now _ c.requires c.strings-x-items.ensures c.loop-x.x-index (search rules) in search rules

pub bounds-table-x : goal.bounds-table-x
bounds-table-x c = let k = next-inside c.args.m.now _ c.requires c.strings-x-items.ensures c.loop-x.x-index (search rules) in search rules

pub loop-x-preserved : goal.loop-x-preserved
loop-x-preserved c = holds-turn _ c.strings-x-items.result.now c.loop-x.x-index (search rules) c.loop-x.invariant refl

pub offset_bounds-table-i : goal.offset_bounds-table-i
offset_bounds-table-i c = let h = number-inside c.args.m.now _ c.requires c.in-Some.is in search rules

pub bounds-table-i : goal.bounds-table-i
bounds-table-i c = number-inside c.args.m.now _ c.requires c.in-Some.is

pub returns-in-Some : goal.returns-in-Some
returns-in-Some c = holds-last c.args.m.now _ (rw (take_all c.loop-x.x-index c.strings-x-items.result.now (search rules), c.strings-x-items.ensures) at c.loop-x.invariant) c.in-Some.is refl
