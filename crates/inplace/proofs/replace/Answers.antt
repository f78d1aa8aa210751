use mathlib.Core.Path.{refl}
use Rattle.inplace.proofs.Replacing.{replace-ready, replace-row, replace-some}
use Rattle.inplace.proofs.replace.Goals as goal

pub highest-requires : goal.highest-requires
highest-requires c = replace-some _ _ _ _ c.requires

pub shorten-changed-requires : goal.shorten-changed-requires
shorten-changed-requires c =
    replace-ready _ _ _ _ c.requires _ c.highest.ensures _ _ c.write-changed.ensures

pub returns : goal.returns
returns c =
    replace-row _ _ _ _ c.requires _ c.highest.ensures _ _ c.write-changed.ensures _ _ c.shorten-changed.ensures _ refl
