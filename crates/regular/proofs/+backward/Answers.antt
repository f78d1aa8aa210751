use Rattle.std.proofs.Common.{refl, arith, rules}
use Rattle.laws.proofs.TableLaws.{words_of}
use Rattle.regular.proofs.StepLaws.{level_first, level_going, level_low, level_all, level_next}
use Rattle.regular.proofs.+backward.Goals as goal

pub returns-then-r-eq0 : goal.returns-then-r-eq0
returns-then-r-eq0 t c =
    let words = words_of c.args.t.now (λ i. search rules) in (
      level_first _ _ _ _ _ _ _ c.args.way.now.asked.automaton.whole words c.requires.1 _ _ _ c.if-r-eq0.true c.states_in.ensures c.ending.ensures c.requires.3,
      c.requires.2,
    )

pub backward-into-requires : goal.backward-into-requires
backward-into-requires t c =
    let words = words_of c.args.t.now (λ i. search rules) in
    (omega arith, (c.requires.0, level_going _ _ _ _ _ _ _ c.args.way.now.asked.automaton.whole words c.requires.1 c.if-r-eq0.false, c.requires.2, c.requires.3))

pub returns-then-into-way : goal.returns-then-into-way
returns-then-into-way t c =
    let words = words_of c.args.t.now (λ i. search rules) in (
      level_all _ _ _ _ _ _ _ c.args.way.now.asked.automaton.whole words c.requires.1 c.if-r-eq0.false _ _ _ c.backward-into.ensures.0 _ c.states_in-from.ensures c.if-into-way.true,
      c.backward-into.ensures.1,
    )

pub keep-requires : goal.keep-requires
keep-requires t c =
    let words = words_of c.args.t.now (λ i. search rules) in (
      c.requires.0,
      level_low _ _ _ _ _ _ _ c.args.way.now.asked.automaton.whole words c.requires.1 c.if-r-eq0.false _ _ _ c.backward-into.ensures.0,
      c.backward-into.ensures.1,
    )

pub returns : goal.returns
returns t c =
    let words = words_of c.args.t.now (λ i. search rules) in (
      level_next _ _ _ _ _ _ _ c.args.way.now.asked.automaton.whole words c.requires.1 c.if-r-eq0.false _ _ _ c.backward-into.ensures.0 _ _ _ _ c.states_in-from.ensures
          c.ending-2.ensures c.keep.ensures.1 _ _ _ c.put.ensures refl,
      c.keep.ensures.0,
    )
