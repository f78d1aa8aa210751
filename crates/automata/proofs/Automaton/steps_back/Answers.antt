use Rattle.std.proofs.Common.{refl}
use Rattle.automata.proofs.SetLaws.{walked_start, walked_end, entering-skip, entering-add}
use Rattle.automata.proofs.TargetLaws.{entries_turn, entries_end}
use Rattle.automata.proofs.Automaton.steps_back.Goals as goal

pub loop-p-init : goal.loop-p-init
loop-p-init c =
    let low = rw c.states.ensures at c.below.ensures in
    rw (c.into_iter-p-iterator.ensures.into_iter_gives, c.each_bit-p-items.ensures) (walked_start _ _ _ _ (λ i t x. x.1) low, walked_start _ _ _ _ (λ i t x. x.0) low, c.requires.1)

pub loop-p-preserved-in-Some-entry : goal.loop-p-preserved-in-Some-entry
loop-p-preserved-in-Some-entry c =
    let l = c.loop-p.invariant in
    let s = c.in-Some.ensures.steps in
    let x = c.in-Some-entry.ensures in
    rw s.1 (
      entering-add _ _ _ _ _ _ _ _ _ _ _ _ l.0 s.0 refl x.0.whether _ refl c.only.ensures refl,
      entries_turn _ _ _ _ _ _ _ _ _ _ _ _ l.1 s.0 refl x.0,
      x.1,
    )

pub loop-p-preserved : goal.loop-p-preserved
loop-p-preserved c =
    let l = c.loop-p.invariant in
    let s = c.in-Some.ensures.steps in
    let x = c.in_default.ensures in
    rw s.1 (
      entering-skip _ _ _ _ _ _ _ _ _ _ _ _ l.0 s.0 refl x.0.whether refl refl,
      entries_turn _ _ _ _ _ _ _ _ _ _ _ _ l.1 s.0 refl x.0,
      x.1,
    )

pub returns : goal.returns
returns c =
    let l = c.loop-p in
    let e = c.in-None.ensures.steps.0 in
    (entries_end _ _ _ _ _ _ _ _ (walked_end _ _ _ _ _ e l.invariant.0) (walked_end _ _ _ _ _ e l.invariant.1), l.invariant.2)
