use Rattle.std.proofs.Common.{rules}
use Rattle.format.proofs.ContentLaws.{usable-sound}
use borrow.Author.Tests.{not-false}
use Rattle.queue.proofs.PlaceLaws.{usable-steps, usable-few, places-lent, joins_some, joins_none}
use Rattle.queue.proofs.joiners.Goals as goal

pub returns-then-not-struck : goal.returns-then-not-struck
returns-then-not-struck c = joins_none _ _ _ _ (c.if-not-struck.true)

pub joined_words-requires : goal.joined_words-requires
joined_words-requires c =
    let u = c.args.p.now.usable in
    let wf = (usable-sound _ _ u c.args.p.now.bytes).well_formed in
    (search rules, places-lent _ wf (usable-few _ _ u) _ c.requires.0 _ (rw (usable-steps _ _ u) c.requires.1) _ c.places-m.ensures)

pub joined_words-requires-2 : goal.joined_words-requires-2
joined_words-requires-2 c =
    let u = c.args.p.now.usable in
    let wf = (usable-sound _ _ u c.args.p.now.bytes).well_formed in
    (search rules, places-lent _ wf (usable-few _ _ u) _ c.requires.0 _ (rw (usable-steps _ _ u) c.requires.1) _ c.places-m.ensures)

pub returns : goal.returns
returns c =
    let u = c.args.p.now.usable in
    let wf = (usable-sound _ _ u c.args.p.now.bytes).well_formed in
    joins_some _ wf (usable-few _ _ u) _ c.requires.0 _ (rw (usable-steps _ _ u) c.requires.1) _ c.places-m.ensures _ _ _ (search rules) (search rules)
    c.joined_words.ensures c.joined_words-2.ensures _ (not-false _ (search rules))
