use Rattle.std.proofs.Common.{rules, refl}
use Rattle.queue.proofs.PlaceLaws.{places_trimming, places-constraint}
use Rattle.queue.proofs.places.Goals as goal

pub returns-then-j-p : goal.returns-then-j-p
returns-then-j-p c = places_trimming _ _ c.args.p.now.usable _ (search rules) refl refl

pub returns : goal.returns
returns c = places-constraint _ _ c.args.p.now.usable _ (search rules) _ c.constraint.ensures _ c.positions_of.ensures
