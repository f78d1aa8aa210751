use Rattle.std.proofs.Common.{◌≡◌, arith, rules}
use Rattle.automata.proofs.KindLaws.{held-each, finding_start, finding_turn, finding_end}
use Rattle.automata.proofs.columns.kinds.Goals as goal

pub loop-i-init : goal.loop-i-init
loop-i-init c = finding_start _ _ _ c.requires.3

pub start-at-requires : goal.start-at-requires
start-at-requires c = (search rules, held-each _ _ _ c.requires.0 c.requires.2 _ c.loop-i-test.true)

pub loop-i-preserved : goal.loop-i-preserved
loop-i-preserved c =
    let l = c.loop-i in
    rw c.copy_from_slice.ensures.after (finding_turn _ _ _ c.requires.0 c.requires.2 l.i _ _ _ c.loop-i-test.true c.requires.1 l.invariant c.start-at.ensures
    c.kinds-own.ensures (search rules))

pub returns : goal.returns
returns c =
    let e : c.loop-i.i ≡ c.args.d = omega arith in
    (finding_end _ _ _ c.requires.0 c.requires.2 _ (rw e at c.loop-i.invariant), c.loop-i.invariant.size)
