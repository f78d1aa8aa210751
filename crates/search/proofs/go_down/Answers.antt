use Rattle.search.proofs.VisitLaws.{solved-here, down-there, down-next}
use Rattle.search.proofs.go_down.Goals as goal

pub returns-in_default-at : goal.returns-in_default-at
returns-in_default-at c = solved-here _ _ c.requires.0 _ c.in_default-at.ensures

pub down-requires : goal.down-requires
down-requires c = down-there _ _ c.requires.0 _ _ c.in_Some-at.ensures

pub returns : goal.returns
returns c =
    down-next _ _ c.requires.0 _ _ c.in_Some-at.ensures _ c.down.ensures
