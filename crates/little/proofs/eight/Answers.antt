use Rattle.model.specs.Layout.{part}
use Rattle.laws.proofs.LayoutLaws.{part_length}
use Rattle.little.proofs.LittleLaws.{little-bytes_8}
use Rattle.little.proofs.eight.Goals as goal

pub returns : goal.returns
returns c =
    let size = part_length c.args.at 8 c.args.bytes.now c.requires in
    cc (little-bytes_8 (part c.args.at 8 c.args.bytes.now) size)
