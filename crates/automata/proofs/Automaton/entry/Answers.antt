use Rattle.automata.proofs.MachineLaws.{moves-below}
use Rattle.automata.proofs.TargetLaws.{targets-at, added_none, added_all, added_kept}
use Rattle.std.proofs.Common.{rules}
use Rattle.automata.proofs.Automaton.entry.Goals as goal

pub returns-then-to-set-eq0 : goal.returns-then-to-set-eq0
returns-then-to-set-eq0 c =
    (added_none _ _ _ _ _ _ _ (targets-at _ _ _ _ _ c.requires.3 _ c.requires.0 c.if-to-eq0.false) c.if-to-set-eq0.true, c.requires.3)

pub returns-then-to-set-eq0-2 : goal.returns-then-to-set-eq0-2
returns-then-to-set-eq0-2 c = (
  added_all _ _ _ _ _ _ _ (targets-at _ _ _ _ _ c.requires.3 _ c.requires.0 c.if-to-eq0.false) (search rules) c.if-to-set-eq0.false
      (λ a l. moves-below _ _ c.args.self.whole _ a c.requires.0 l) c.if-to-set-eq0-2.true (search rules) c.requires.2 c.requires.1,
  c.requires.3,
)

pub returns : goal.returns
returns c = (
  added_kept _ _ _ _ _ _ _ _ (targets-at _ _ _ _ _ c.requires.3 _ c.requires.0 c.if-to-eq0.false) (search rules) c.if-to-set-eq0.false
      (search rules) (search rules) c.by.ensures,
  c.requires.3,
)
