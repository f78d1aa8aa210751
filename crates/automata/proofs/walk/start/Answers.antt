use Rattle.std.proofs.Common.{◌≡◌, arith, rules}
use Rattle.automata.proofs.AutomataWalkLaws.{lent-whole, reached-next, reached-start}
use Rattle.automata.proofs.walk.start.Goals as goal

pub invariant_of-a : goal.invariant_of-a
invariant_of-a c = record { few = c.requires.0; whole = lent-whole _ _ _ c.requires.1 _ _ c.loop-j.invariant (search rules) }

pub loop-j-preserved : goal.loop-j-preserved
loop-j-preserved c = reached-next _ _ _ c.requires.1 _ _ c.loop-j.invariant (search rules) _ c.size-at.ensures

pub returns : goal.returns
returns c =
    let e : c.loop-j.j ≡ c.args.i = omega arith in
    reached-start _ _ _ _ c.requires.1 (rw e at c.loop-j.invariant)
