use Rattle.std.proofs.Common.{rules}
use Rattle.listing.proofs.LineLaws.{each_start, count_capacity, count-step, count-end}
use Rattle.listing.proofs.TableLinesLaws.{part-ready, part-text}
use Rattle.model.specs.Lists.{upto}
use Rattle.model.specs.Domains.{row}
use Rattle.model.specs.Listing.{string_line}
use Rattle.listing.specs.TableLines.{text_of, row_lines}
use Rattle.listing.proofs.Page.string_lines.Goals as goal

pub loop-x-init : goal.loop-x-init
loop-x-init c = each_start (λ y. string_line y (text_of (row c.args.table.now y))) (upto c.args.s)

pub string_line-requires : goal.string_line-requires
unfolding row_lines
string_line-requires c =
    let k = c.loop-x in
    part-ready c.args.table.now c.args.s k.x c.requires.0 (search rules) c.requires.1 (count_capacity (λ y. string_line y (text_of (row c.args.table.now y))) c.args.s k.x (search rules) k.invariant c.requires.2)

pub loop-x-preserved : goal.loop-x-preserved
loop-x-preserved c =
    let k = c.loop-x in
    count-step (λ y. string_line y (text_of (row c.args.table.now y))) c.args.s k.x (search rules) k.invariant (rw (part-text c.args.table.now k.x) at c.string_line.ensures)

pub returns : goal.returns
unfolding row_lines
returns c =
    count-end (λ y. string_line y (text_of (row c.args.table.now y))) c.args.s c.loop-x.x (search rules) c.loop-x.invariant
