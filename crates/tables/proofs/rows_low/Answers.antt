use Rattle.std.proofs.Common.{arith, sym, ◌≡◌, ◌*◌, ◌<◌}
use Rattle.tables.proofs.LowLaws.{low-start, low_step, all-low, some-high}
use Rattle.tables.proofs.rows_low.Goals as goal

pub loop-i-init : goal.loop-i-init
loop-i-init g c = λ T gives. low-start _ _

pub returns-then-not-low_at : goal.returns-then-not-low_at
returns-then-not-low_at g c = λ T gives.
    let here : c.loop-i.i < 64 * c.args.s = omega arith in
    sym (some-high _ _ T _ _ _ here (gives _ _ here c.word.ensures) c.low_at.ensures c.if-not-low_at.true)

pub loop-i-preserved : goal.loop-i-preserved
loop-i-preserved g c = λ T gives.
    let here : c.loop-i.i < 64 * c.args.s = omega arith in
    low_step _ T _ _ _ (c.loop-i.invariant T gives) (gives _ _ here c.word.ensures) c.low_at.ensures c.if-not-low_at.false

pub returns : goal.returns
returns g c = λ T gives.
    let e : c.loop-i.i ≡ 64 * c.args.s = omega arith in
    sym (all-low _ _ T (rw e at c.loop-i.invariant T gives))
