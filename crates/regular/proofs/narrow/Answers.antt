use Rattle.std.proofs.Common.{refl, rules}
use Rattle.laws.proofs.TableLaws.{words_of}
use Rattle.regular.proofs.AskLaws.{forgotten_start}
use Rattle.inplace.proofs.Parts.{tidy-lengths}
use Rattle.regular.proofs.StepLaws.{steps-none, going, going-all, regular-none, regular-ready, regular-left}
use Rattle.regular.proofs.narrow.Goals as goal

pub highest-requires : goal.highest-requires
highest-requires c = tidy-lengths _ _ c.requires.3

pub forward-requires : goal.forward-requires
forward-requires c = (record { kinds = c.requires.0 }, refl, refl, forgotten_start, search rules, search rules, search rules, refl)

pub returns-then-ends-eq0 : goal.returns-then-ends-eq0
returns-then-ends-eq0 c =
    let words = words_of c.args.t.now (λ i. search rules) in
    regular-none _ _ _ _ c.args.automaton.whole c.requires.1 c.requires.2 words c.requires.3 _ _ _ _ c.highest.ensures c.forward.ensures.0
    (search rules) c.accepting.ensures c.lengths-ends.ensures c.if-ends-eq0.true

pub backward-requires : goal.backward-requires
backward-requires c =
    let words = words_of c.args.t.now (λ i. search rules) in (
      record { kinds = c.requires.0 },
      going-all _ _ _ _ _ _ _ c.args.automaton.whole words (going _ _ _ _ c.args.automaton.whole c.requires.1 c.requires.2 words
          c.requires.3 _ _ _ _ c.highest.ensures c.forward.ensures.0
          (search rules) c.accepting.ensures c.lengths-ends.ensures _ c.highest-2.ensures),
      record { steps = steps-none _ _ _; keeps = c.forward.ensures.1 },
      refl,
    )

pub shorten-requires : goal.shorten-requires
shorten-requires c =
    let words = words_of c.args.t.now (λ i. search rules) in
    let go = going _ _ _ _ c.args.automaton.whole c.requires.1 c.requires.2 words c.requires.3 _ _ _ _ c.highest.ensures c.forward.ensures.0
    (search rules) c.accepting.ensures c.lengths-ends.ensures _ c.highest-2.ensures in
    regular-ready _ _ _ _ _ _ _ c.args.automaton.whole words go _ _ _ c.backward.ensures.0

pub returns : goal.returns
returns c =
    let words = words_of c.args.t.now (λ i. search rules) in
    let go = going _ _ _ _ c.args.automaton.whole c.requires.1 c.requires.2 words c.requires.3 _ _ _ _ c.highest.ensures c.forward.ensures.0
    (search rules) c.accepting.ensures c.lengths-ends.ensures _ c.highest-2.ensures in
    regular-left _ _ _ _ _ _ _ c.args.automaton.whole words go _ _ _ c.backward.ensures.0 _ _ c.shorten.ensures _ refl
