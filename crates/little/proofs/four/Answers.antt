use Rattle.model.specs.Layout.{part}
use Rattle.laws.proofs.LayoutLaws.{part_length}
use Rattle.little.proofs.LittleLaws.{little-bytes_4}
use Rattle.little.proofs.four.Goals as goal

pub returns : goal.returns
returns c =
    let size = part_length c.args.at 4 c.args.bytes.now c.requires in
    cc (little-bytes_4 (part c.args.at 4 c.args.bytes.now) size)
