use Rattle.std.proofs.Common.{rules, ◌≡◌, ◌∙◌, ◌+◌, ◌*◌}
use mathlib.Core.List.{map}
use Rattle.model.specs.Layout.{little, part}
use Rattle.model.specs.Reading.{pieces}
use Rattle.tables.proofs.FileTable.{file-words}
use Rattle.tables.proofs.file_low.Goals as goal

pub returns : goal.returns
returns c = λ t.
    let a = c.args in
    c.rows_low.ensures (map little (pieces (64 * a.s + t) 8 a.bytes.now)) (λ i w h got.
    let word : w ≡ little (part (8 * i) 8 a.bytes.now) = search rules in
    word ∙ file-words a.s t a.bytes.now i h)
