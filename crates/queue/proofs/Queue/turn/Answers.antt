use Rattle.std.proofs.Common.{arith}
use mathlib.Core.Path.{refl}
use Rattle.queue.proofs.PlaceLaws.{usable-steps, usable-few}
use Rattle.queue.proofs.RunLaws.{turned, front_less, tail-near}
use Rattle.queue.proofs.Queue.turn.Goals as goal

pub step-s-requires : goal.step-s-requires
step-s-requires c =
    let u = c.args.p.now.usable in
    let l = front_less c.requires.4 c.requires.5 (usable-few _ _ u) in
    (c.requires.0, c.requires.2, omega (arith, l, usable-steps _ _ u), c.requires.3)

pub joiners-more-requires : goal.joiners-more-requires
joiners-more-requires c =
    let u = c.args.p.now.usable in
    let l = front_less c.requires.4 c.requires.5 (usable-few _ _ u) in
    (c.requires.1, omega (arith, l, usable-steps _ _ u))

pub advance-requires : goal.advance-requires
advance-requires c =
    let few = usable-few _ _ c.args.p.now.usable in
    (omega (arith, front_less c.requires.4 c.requires.5 few, few), c.requires.6, omega (arith, tail-near c.requires.4 c.requires.5 few, c.requires.6))

pub returns : goal.returns
returns c =
    let e = c.step-s.ensures in
    turned _ (usable-few _ _ c.args.p.now.usable) refl e.strikes c.joiners-more.ensures c.advance.ensures e.trimmed_in
