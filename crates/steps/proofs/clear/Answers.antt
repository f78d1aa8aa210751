use Rattle.std.proofs.Common.{arith, rules, take_all}
use Rattle.steps.proofs.NamingLaws.{number-inside}
use Rattle.steps.proofs.TidyLaws.{next-inside}
use Rattle.steps.proofs.BlankLaws.{blanked_turn, blanked_last}
use Rattle.steps.proofs.clear.Goals as goal

pub blank-requires : goal.blank-requires
blank-requires c =
    let s = c.loop-x.invariant.size in
    let k = next-inside c.args.m.now _ c.requires c.strings-x-items.ensures c.loop-x.x-index (search rules) in
    omega arith

pub loop-x-preserved : goal.loop-x-preserved
loop-x-preserved c = blanked_turn c.strings-x-items.result.now c.loop-x.x-index (search rules) c.loop-x.invariant c.blank.ensures

pub offset_bounds-table-i : goal.offset_bounds-table-i
offset_bounds-table-i c =
    let h = number-inside c.args.m.now _ c.requires c.in-Some.is in
    let s = c.loop-x.invariant.size in
    search rules

pub bounds-table-i : goal.bounds-table-i
bounds-table-i c =
    let h = number-inside c.args.m.now _ c.requires c.in-Some.is in
    let s = c.loop-x.invariant.size in
    search rules

pub returns-in-Some : goal.returns-in-Some
returns-in-Some c =
    blanked_last c.args.m.now _ c.requires _ c.in-Some.is
    (rw (take_all c.loop-x.x-index c.strings-x-items.result.now (search rules), c.strings-x-items.ensures) at c.loop-x.invariant)
