use Rattle.std.proofs.Common.{arith, rules}
use mir.Val.{Fits}
use mir.Syntax.{w64}
use Rattle.laws.proofs.WordLaws.{bit_high}
use Rattle.sub.proofs.Steps.{starts-begun, starts-turn}
use Rattle.sub.proofs.starts.Goals as goal

pub loop-off-init : goal.loop-off-init
loop-off-init c = rw (c.into_iter-off-iterator.ensures.into_iter_gives, c.each_bit-off-items.ensures) (starts-begun _ _ _ _ _ _ c.requires.1)

pub at_start-found-requires : goal.at_start-found-requires
at_start-found-requires c =
    let fits : Fits w64 c.args.n = search rules in
    let k = bit_high c.args.n 64 _ fits.fits (c.loop-off.invariant.coming _ c.in-Some.ensures.steps.0.here) in
    (omega arith, c.requires.0)

pub loop-off-preserved : goal.loop-off-preserved
loop-off-preserved c =
    let s = c.in-Some.ensures.steps in
    rw s.1 (starts-turn _ _ _ _ _ _ _ _ c.loop-off.invariant _ s.0 _ _ c.at_start-found.ensures)
