use Rattle.std.proofs.Common.{rules}
use lib.ListN.{length, get_or}
use Rattle.listing.proofs.LineLaws.{each_start, count_capacity, count-step, count-end}
use Rattle.model.specs.Lists.{upto}
use Rattle.model.specs.Listing.{number_line}
use Rattle.listing.specs.TableLines.{only_value, word_lines}
use Rattle.listing.proofs.Page.number_lines.Goals as goal

pub loop-x-init : goal.loop-x-init
loop-x-init c =
    each_start (λ y. number_line y (only_value (get_or c.args.words.now y 0))) (upto (length c.args.words.now))

pub number_line-requires : goal.number_line-requires
unfolding word_lines
number_line-requires c =
    let k = c.loop-x in
    count_capacity (λ y. number_line y (only_value (get_or c.args.words.now y 0))) (length c.args.words.now) k.x (search rules) k.invariant c.requires

pub loop-x-preserved : goal.loop-x-preserved
loop-x-preserved c =
    let k = c.loop-x in
    count-step (λ y. number_line y (only_value (get_or c.args.words.now y 0))) (length c.args.words.now) k.x (search rules) k.invariant c.number_line.ensures

pub returns : goal.returns
unfolding word_lines
returns c =
    count-end (λ y. number_line y (only_value (get_or c.args.words.now y 0))) (length c.args.words.now) c.loop-x.x (search rules) c.loop-x.invariant
