use Rattle.automata.proofs.TargetLaws.{targets-set, added_new, added_again, added_no}
use Rattle.std.proofs.Common.{arith, rules}
use Rattle.automata.proofs.Automaton.first_entry.Goals as goal

pub returns-then-new-ne0 : goal.returns-then-new-ne0
returns-then-new-ne0 c = (added_new _ _ _ _ _ _ _ (search rules) (search rules) c.by-new.ensures (search rules) c.if-new-ne0.true, c.requires.2)

pub returns-then-enters : goal.returns-then-enters
returns-then-enters c = (
  added_again _ _ _ _ _ _ _ (search rules) (search rules) c.by-new.ensures (search rules) _ c.enters.ensures c.if-enters.true
      c.requires.1,
  c.requires.2,
)

pub returns : goal.returns
returns c = (
  added_no _ _ _ _ _ _ _ (search rules) (search rules) c.by-new.ensures (search rules) _ c.enters.ensures c.if-enters.false,
  targets-set _ _ _ _ _ c.requires.2 _ _ (omega (arith, c.requires.0, c.args.self.whole.most-states)) c.moves-r.ensures,
)
