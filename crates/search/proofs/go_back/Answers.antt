use Rattle.std.proofs.Common.{rules}
use Rattle.search.proofs.VisitLaws.{over-here, sibling-next, restart-next}
use Rattle.search.proofs.go_back.Goals as goal

pub returns-in_default : goal.returns-in_default
returns-in_default c =
    over-here _ _ c.requires.1 c.args.path c.requires.2 _ c.in_default.ensures

pub returns-then-eq : goal.returns-then-eq
returns-then-eq c =
    sibling-next _ _ c.requires.1 c.args.path c.requires.2 _ c.in-Some.ensures _ _ (search rules) c.sibling.ensures

pub returns : goal.returns
returns c =
    restart-next _ _ c.requires.1 c.args.path c.requires.2 _ c.in-Some.ensures _ _ c.restart.ensures
