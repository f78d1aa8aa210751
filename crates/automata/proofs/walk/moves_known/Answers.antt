use Rattle.std.proofs.Common.{◌≡◌, ◌+◌, ◌%◌, ℕ, ap, arith}
use Rattle.automata.proofs.AutomataWalkLaws.{moves_long, lent_move, greatest_more, all_known}
use Rattle.automata.proofs.walk.moves_known.Goals as goal

pub loop-b-preserved : goal.loop-b-preserved
loop-b-preserved c =
    let h = moves_long _ _ c.requires in
    let e = lent_move c.args.n c.args.d.now c.loop-b.b-index (omega arith) in
    rw c.max-top.ensures (greatest_more _ _ _ _ c.loop-b.invariant (ap (λ (b : ℕ). (b + 1) % 256) e))

pub returns : goal.returns
returns c =
    let h = moves_long _ _ c.requires in
    let e : c.loop-b.b-index ≡ c.args.n = omega arith in
    all_known _ _ _ c.requires (λ j. (c.type_inv.d j).fits) _ (rw e at c.loop-b.invariant)
