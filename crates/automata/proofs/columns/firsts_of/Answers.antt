use Rattle.std.proofs.Common.{◌≡◌, arith, rules}
use Rattle.std.specs.Prelude.{Some}
use Rattle.automata.proofs.KindLaws.{covering_start, covering_turn, covering_less, covering_end}
use Rattle.automata.proofs.columns.firsts_of.Goals as goal

pub loop-rest-init : goal.loop-rest-init
loop-rest-init c = covering_start (Some c.args.ks.now) c.args.w

pub loop-rest-smaller : goal.loop-rest-smaller
loop-rest-smaller c =
    covering_less _ _ _ _ _ _ (search rules) c.lowest-a.ensures c.singleton-alone.ensures (search rules) (search rules)
    c.loop-rest.invariant

pub loop-rest-preserved : goal.loop-rest-preserved
loop-rest-preserved c =
    covering_turn _ _ _ _ _ _ (search rules) c.lowest-a.ensures c.singleton-alone.ensures (search rules) (search rules)
    c.loop-rest.invariant

pub returns : goal.returns
returns c = let e : c.loop-rest.rest ≡ 0 = omega arith in covering_end _ _ _ _ e c.loop-rest.invariant
