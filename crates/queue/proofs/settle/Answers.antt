use Rattle.std.proofs.Common.{arith, rules}
use Prim.Native.Nat.{◌<◌, ◌≤◌}
use Rattle.format.proofs.ContentLaws.{usable-counts}
use Rattle.queue.proofs.PlaceLaws.{usable-steps, usable-few}
use Rattle.queue.proofs.RunLaws.{steps-most, runs_first, runs_more, runs_next, runs_last}
use Rattle.queue.proofs.settle.Goals as goal

pub loop-q-init : goal.loop-q-init
loop-q-init c =
    let u = c.args.p.now.usable in
    let f = u.fits in
    runs_first _ _ _ (usable-steps _ _ u) (omega (arith, f.strings-most, f.constraints-most)) _ c.all-q.ensures c.requires.0

pub turn-requires : goal.turn-requires
turn-requires c =
    let l = c.loop-q in
    let r = l.invariant in
    let t : l.q.head < l.q.tail = search rules in
    let u = c.args.p.now.usable in
    let n = steps-most _ _ (usable-few _ _ u) (usable-counts _ _ u).most-words c.requires.0 in
    (r.lent, c.requires.1, c.kinds.ensures, r.trimmed, (r.line, r.ring), t, omega (arith, runs_more _ _ _ _ r t, n))

pub loop-q-smaller : goal.loop-q-smaller
loop-q-smaller c =
    let l = c.loop-q in
    let t : l.q.head < l.q.tail = search rules in
    omega (arith, c.turn.ensures.counts, runs_more _ _ _ _ l.invariant t)

pub loop-q-preserved : goal.loop-q-preserved
loop-q-preserved c =
    let l = c.loop-q in
    let t : l.q.head < l.q.tail = search rules in
    runs_next _ _ _ _ l.invariant t _ _ c.turn.ensures

pub overflow_cast-result : goal.overflow_cast-result
overflow_cast-result c =
    let l = c.loop-q in
    let u = c.args.p.now.usable in
    let n = steps-most _ _ (usable-few _ _ u) (usable-counts _ _ u).most-words c.requires.0 in
    let k : l.q.head ≤ 5324880 = omega (arith, l.invariant.steps, n) in
    search rules

pub returns-clause-value : goal.returns-clause-value
returns-clause-value c = (runs_last _ _ _ _ c.loop-q.invariant (search rules)).0

pub returns-clause-table_after : goal.returns-clause-table_after
returns-clause-table_after c = (runs_last _ _ _ _ c.loop-q.invariant (search rules)).1
