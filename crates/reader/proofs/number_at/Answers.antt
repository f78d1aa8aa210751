use Rattle.std.proofs.Common.{rules, arith}
use Rattle.reader.proofs.NumberLaws.{back_start, back_step, back-small}
use Rattle.reader.proofs.number_at.Goals as goal

pub loop-byte-init : goal.loop-byte-init
loop-byte-init c = back_start _ _ (search rules)

pub overflow_mul-r : goal.overflow_mul-r
overflow_mul-r c =
    let fits = back-small c.args.at c.args.n c.args.bytes.now _ _ _ _ c.loop-byte.invariant (λ j. (c.type_inv.bytes j).fits) (search rules) (search rules)
    c.in-Some.ensures.steps in
    omega arith

pub overflow_add-r : goal.overflow_add-r
overflow_add-r c =
    let fits = back-small c.args.at c.args.n c.args.bytes.now _ _ _ _ c.loop-byte.invariant (λ j. (c.type_inv.bytes j).fits) (search rules) (search rules)
    c.in-Some.ensures.steps in
    omega arith

pub loop-byte-preserved : goal.loop-byte-preserved
loop-byte-preserved c = back_step _ _ _ _ _ c.loop-byte.invariant c.in-Some.ensures.steps
