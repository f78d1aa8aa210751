use Rattle.std.proofs.Common.{sym, rules}
use Rattle.automata.proofs.AutomataWalkLaws.{walked_stop, walked_next, walked_end}
use Rattle.automata.proofs.walk.all_whole.Goals as goal

pub returns-in_default : goal.returns-in_default
returns-in_default c = sym (walked_stop _ _ _ _ _ c.loop-i.invariant c.loop-i-test.true c.in_default.ensures)

pub loop-i-preserved : goal.loop-i-preserved
loop-i-preserved c =
    let a = c.in-Some.ensures in
    walked_next _ _ _ _ _ c.loop-i.invariant c.loop-i-test.true a.0 _ (rw (a.1, a.2) at c.size-at.ensures)

pub returns : goal.returns
returns c = walked_end _ _ _ _ _ c.loop-i.invariant (search rules)
