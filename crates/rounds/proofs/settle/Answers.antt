use Rattle.std.proofs.Common.{arith, rules}
use Rattle.list.proofs.StepWalkLaws.{walk_start}
use Rattle.rounds.proofs.RoundWalks.{begins-first, wide, lent-short, trim-room, trim-next, trim-lent, round-lent, round-less, round-next, round-last}
use Rattle.rounds.proofs.settle.Goals as goal

pub size-before-requires : goal.size-before-requires
size-before-requires c = lent-short c.args.p.now _ c.requires

pub loop-x-init : goal.loop-x-init
loop-x-init c = (begins-first _ _ c.requires, c.size-before.ensures)

pub loop-x-2-init : goal.loop-x-2-init
loop-x-2-init c = walk_start _ _ _

pub trim_row-requires : goal.trim_row-requires
trim_row-requires c =
    trim-room c.args.p.now c.loop-x.invariant.0 c.loop-x-2.invariant (search rules)

pub loop-x-2-preserved : goal.loop-x-2-preserved
loop-x-2-preserved c =
    trim-next c.args.p.now c.loop-x.invariant.0 c.loop-x-2.invariant (search rules) c.trim_row.ensures

pub lent_steps-requires : goal.lent_steps-requires
lent_steps-requires c =
    (trim-lent c.args.p.now c.loop-x.invariant.0 c.loop-x-2.invariant, c.kinds.ensures, c.of_file-constraints.ensures)

pub size-after-requires : goal.size-after-requires
size-after-requires c =
    lent-short c.args.p.now _ (round-lent c.args.p.now c.loop-x.invariant.0 c.loop-x-2.invariant c.lent_steps.ensures)

pub overflow_add-n : goal.overflow_add-n
overflow_add-n c =
    omega (arith, wide c.args.p.now, c.loop-x.invariant.0.few)

pub loop-x-smaller : goal.loop-x-smaller
loop-x-smaller c =
    let after = c.size-after.ensures in
    let before = c.loop-x.invariant.1 in
    round-less c.args.p.now c.loop-x.invariant.0 c.loop-x-2.invariant c.lent_steps.ensures (omega arith) (λ e. c.if-after-before.false (omega arith))

pub loop-x-preserved : goal.loop-x-preserved
loop-x-preserved c =
    let after = c.size-after.ensures in
    let before = c.loop-x.invariant.1 in
    (round-next c.args.p.now c.loop-x.invariant.0 c.loop-x-2.invariant c.lent_steps.ensures (omega arith) (λ e. c.if-after-before.false (omega arith)), after)

pub returns-then-after-before-clause-value : goal.returns-then-after-before-clause-value
returns-then-after-before-clause-value c =
    let after = c.size-after.ensures in
    let before = c.loop-x.invariant.1 in
    let same = c.if-after-before.true in
    (round-last c.args.p.now c.loop-x.invariant.0 c.loop-x-2.invariant c.lent_steps.ensures (omega arith) (omega arith)).0

pub returns-then-after-before-clause-table_after : goal.returns-then-after-before-clause-table_after
returns-then-after-before-clause-table_after c =
    let after = c.size-after.ensures in
    let before = c.loop-x.invariant.1 in
    let same = c.if-after-before.true in
    (round-last c.args.p.now c.loop-x.invariant.0 c.loop-x-2.invariant c.lent_steps.ensures (omega arith) (omega arith)).1
