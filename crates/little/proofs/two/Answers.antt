use Rattle.model.specs.Layout.{part}
use Rattle.laws.proofs.LayoutLaws.{part_length}
use Rattle.little.proofs.LittleLaws.{little-bytes_2}
use Rattle.little.proofs.two.Goals as goal

pub returns : goal.returns
returns c =
    let size = part_length c.args.at 2 c.args.bytes.now c.requires in
    cc (little-bytes_2 (part c.args.at 2 c.args.bytes.now) size)
