use Rattle.std.proofs.Common.{arith, rules}
use Rattle.index.proofs.StandingLaws.{number-room, strings-standing, number-standing}
use Rattle.index.proofs.positions_of.Goals as goal
use Rattle.index.proofs.positions_of.Goals.{in-Some, in_default}

pub bounds-at-count : goal.bounds-at-count
bounds-at-count c =
    number-room c.args.s _ c.names-names.result (search rules) c.names-names.ensures.0 c.in-Some.is

pub invariant_of-result : goal.invariant_of-result
invariant_of-result c =
    let names = c.names-names.result in
    elim c.match-names.branch [
      | in-Some w ↦ record { few = (let room = number-room c.args.s _ names (search rules) c.names-names.ensures.0 w.in-Some.is in omega (arith, w.count-is)) }
      | in_default w ↦ record { few = omega (arith, w.count-is, names.most) }
    ]

pub returns : goal.returns
returns c =
    let names = c.names-names.result in
    let e = c.names-names.ensures.0 in
    elim c.match-names.branch [
      | in-Some w ↦ record { are = number-standing _ _ names (search rules) e _ _ _ w.in-Some.is w.at-is w.count-is }
      | in_default w ↦ record { are = strings-standing _ _ names (search rules) e _ _ (search rules) w.at-is w.count-is }
    ]
