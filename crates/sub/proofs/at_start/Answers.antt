use Rattle.std.proofs.Common.{arith, rules}
use native.Mathlib.Numerals.{add-one}
use Prim.Native.Nat.{◌+◌, ◌≤◌}
use Rattle.laws.proofs.TableLaws.{words_of}
use Rattle.sub.proofs.Steps.{start-short, start-some, start-end, start_left}
use Rattle.sub.proofs.Turns.{joined}
use Rattle.sub.proofs.at_start.Goals as goal

pub returns-then-m-bounds : goal.returns-then-m-bounds
returns-then-m-bounds c =
    let far : c.args.off + c.args.bounds.least ≤ c.args.bounds.longest = search rules in
    let words = words_of c.args.t.now (λ i. search rules) in
    start-short c.args.t.now words _ _ _ _ _ _ c.requires.0 c.requires.1 c.args.r.now far _ _ c.min.ensures
    c.meets-m.ensures c.if-m-bounds.true

pub highest-requires : goal.highest-requires
highest-requires c =
    let far : c.args.off + c.args.bounds.least ≤ c.args.bounds.longest = search rules in
    let words = words_of c.args.t.now (λ i. search rules) in
    start-some c.args.t.now words _ _ _ _ _ _ c.requires.0 c.requires.1 c.args.r.now far _ _ c.min.ensures c.meets-m.ensures
    (search rules) _ c.low_mask.ensures

pub add-requires : goal.add-requires
add-requires c =
    let far : c.args.off + c.args.bounds.least ≤ c.args.bounds.longest = search rules in
    let words = words_of c.args.t.now (λ i. search rules) in
    let end = start-end c.args.t.now words _ _ _ _ _ _ c.requires.0 c.requires.1 c.args.r.now far _ _ c.min.ensures c.meets-m.ensures
    (search rules) _ c.low_mask.ensures _ c.highest.ensures in
    let small = c.highest.ensures.small in
    let within = c.meets-m.ensures.small in
    let least = c.min.ensures in
    let top = c.requires.1.top.small in
    let most = c.requires.1.high.small in
    let fx = c.requires.1.fits-x in
    let fy = c.requires.1.fits-y in
    (omega arith, omega arith, omega arith)

pub returns : goal.returns
returns c =
    let far : c.args.off + c.args.bounds.least ≤ c.args.bounds.longest = search rules in
    let words = words_of c.args.t.now (λ i. search rules) in
    rw (c.singleton.ensures, add-one) (start_left c.args.t.now words _ _ _ _ _ _ c.requires.0 c.requires.1 c.args.r.now far _ _
    c.min.ensures c.meets-m.ensures (search rules) _ c.low_mask.ensures _ c.highest.ensures (search rules) _
    (joined _ _ _ _ _ _ _ (search rules) c.add.ensures))
