use Rattle.std.proofs.Common.{rules}
use mathlib.Core.Path.{refl}
use Rattle.laws.proofs.TableLaws.{words_of}
use Rattle.inplace.proofs.Parts.{tidy-lengths}
use Rattle.sub.proofs.NarrowLaws.{step_room, step-none, step_left, step_replacing, step-done}
use Rattle.sub.proofs.narrow.Goals as goal

pub lowest-requires : goal.lowest-requires
lowest-requires c = tidy-lengths _ _ c.requires.5

pub highest-requires : goal.highest-requires
highest-requires c = tidy-lengths _ _ c.requires.5

pub highest-requires-2 : goal.highest-requires-2
highest-requires-2 c = tidy-lengths _ _ c.requires.4

pub starts-n-requires : goal.starts-n-requires
starts-n-requires c =
    let words = words_of c.args.t.now (λ j. search rules) in (
      step_room c.args.t.now words _ _ _ c.requires.0 c.requires.1 c.requires.2 c.requires.3 c.requires.4 c.requires.5 _ _ _ c.lowest.ensures
          c.highest.ensures c.highest-2.ensures,
      refl,
    )

pub returns-then-n-eq0 : goal.returns-then-n-eq0
returns-then-n-eq0 c =
    let words = words_of c.args.t.now (λ j. search rules) in
    step-none c.args.t.now words _ _ _ c.requires.0 c.requires.1 c.requires.2 c.requires.3 c.requires.4 c.requires.5 _ _ _ c.lowest.ensures
    c.highest.ensures c.highest-2.ensures _ _ c.starts-n.ensures c.if-n-eq0.true

pub wholes-requires : goal.wholes-requires
wholes-requires c =
    let words = words_of c.args.t.now (λ j. search rules) in
    step_left c.args.t.now words _ _ _ c.requires.0 c.requires.1 c.requires.2 c.requires.3 c.requires.4 c.requires.5 _ _ _ c.lowest.ensures
    c.highest.ensures c.highest-2.ensures _ _ c.starts-n.ensures c.if-n-eq0.false

pub replace-requires : goal.replace-requires
replace-requires c =
    let words = words_of c.args.t.now (λ j. search rules) in
    step_replacing c.args.t.now words _ _ _ c.requires.0 c.requires.1 c.requires.2 c.requires.3 c.requires.4 c.requires.5 _ _ _ c.lowest.ensures
    c.highest.ensures c.highest-2.ensures _ _ c.starts-n.ensures c.if-n-eq0.false _ _ c.wholes.ensures

pub returns : goal.returns
returns c =
    let words = words_of c.args.t.now (λ j. search rules) in
    step-done c.args.t.now words _ _ _ c.requires.0 c.requires.1 c.requires.2 c.requires.3 c.requires.4 c.requires.5 _ _ _ c.lowest.ensures
    c.highest.ensures c.highest-2.ensures _ _ c.starts-n.ensures c.if-n-eq0.false _ _ c.wholes.ensures _ _ c.replace.ensures _ _
    c.put.ensures
