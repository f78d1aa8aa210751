use Rattle.std.proofs.Common.{◌≡◌, ◌∙◌, ◌+◌, arith}
use lib.ListN.{length-set}
use lib.Seq.{get_or-set_same}
use Rattle.laws.proofs.TableLaws.{words_of}
use Rattle.regular.proofs.StateLaws.{forward-start}
use Rattle.regular.proofs.AskLaws.{forwards_none}
use Rattle.regular.proofs.StepLaws.{place-low, forward-turn}
use Rattle.regular.proofs.forward.Goals as goal

pub loop-i-init : goal.loop-i-init
loop-i-init c = (
  length-set c.args.sets.now 0 1 ∙ c.requires.7,
  forward-start _ _ _ (get_or-set_same c.args.sets.now 0 1 0 (omega (arith, c.requires.7))),
  forwards_none _ _ c.requires.2 c.requires.1 c.requires.3,
)

pub successors-last-requires : goal.successors-last-requires
successors-last-requires c =
    let l = c.loop-i in
    let words = words_of c.args.t.now (λ i. (c.type_inv.t i).fits) in
    (c.requires.0, place-low _ _ _ _ c.args.asked.automaton.whole c.requires.4 c.requires.5 words l.i (omega arith), l.invariant.2)

pub loop-i-preserved : goal.loop-i-preserved
loop-i-preserved c =
    let l = c.loop-i in
    let words = words_of c.args.t.now (λ i. (c.type_inv.t i).fits) in
    let e = c.successors-last.ensures in (
      length-set l.sets (l.i + 1) c.successors-last.result.states ∙ l.invariant.0,
      forward-turn _ _ _ _ c.args.asked.automaton.whole c.requires.4 c.requires.5 words l.i _ _ (omega arith) l.invariant.0 l.invariant.1 (rw (e.1, e.2) at e.0.steps),
      e.0,
    )

pub returns : goal.returns
returns c =
    let e : c.loop-i.i ≡ c.args.longest = omega arith in
    (rw e at c.loop-i.invariant.1, c.loop-i.invariant.2.keeps)
