use Rattle.std.proofs.Common.{rules, take_all}
use Rattle.steps.proofs.NamingLaws.{number-inside, three}
use Rattle.steps.proofs.TidyLaws.{next-inside}
use Rattle.steps.proofs.SizeLaws.{sum-start, sum-next, sum-last, small_count}
use Rattle.steps.proofs.count.Goals as goal

pub loop-x-init : goal.loop-x-init
loop-x-init c = sum-start _ _

pub bits-n-requires : goal.bits-n-requires
bits-n-requires c = next-inside c.args.m.now _ c.requires c.strings-x-items.ensures c.loop-x.x-index (search rules)

pub overflow_add-n : goal.overflow_add-n
overflow_add-n c =
    let k = next-inside c.args.m.now _ c.requires c.strings-x-items.ensures c.loop-x.x-index (search rules) in
    let t = (sum-next _ _ _ _ _ (search rules) k c.bits-n.ensures c.loop-x.invariant).small in
    let h = three c.args.m.now c.strings-x-items.ensures in
    search rules

pub loop-x-preserved : goal.loop-x-preserved
loop-x-preserved c =
    let k = next-inside c.args.m.now _ c.requires c.strings-x-items.ensures c.loop-x.x-index (search rules) in
    sum-next _ _ c.loop-x.x-index _ _ (search rules) k c.bits-n.ensures c.loop-x.invariant

pub offset_bounds-table-i : goal.offset_bounds-table-i
offset_bounds-table-i c =
    let h = number-inside c.args.m.now _ c.requires c.in-Some.is in
    search rules

pub bounds-table-i : goal.bounds-table-i
bounds-table-i c = number-inside c.args.m.now _ c.requires c.in-Some.is

pub overflow_add-n-in-Some : goal.overflow_add-n-in-Some
overflow_add-n-in-Some c =
    let s = c.loop-x.invariant.small in
    let h = three c.args.m.now c.strings-x-items.ensures in
    let b = small_count _ _ c.count-n.ensures in
    search rules

pub returns-in-Some : goal.returns-in-Some
returns-in-Some c =
    sum-last c.args.m.now _ _ _ c.in-Some.is
    (rw (take_all c.loop-x.x-index c.strings-x-items.result.now (search rules), c.strings-x-items.ensures) at c.loop-x.invariant.sum)
    _ c.count-n.ensures
