use Rattle.std.proofs.Common.{ℕ, ◌*◌, sym, refl, ap, ◌∙◌, ap₂, arith}
use mathlib.Core.Bool.{false≢true}
use Rattle.model.specs.Words.{none_from}
use Rattle.automata.proofs.AutomataWalkLaws.{not-whole, present-whole, whole-by-moves}
use Rattle.automata.proofs.walk.head.Goals as goal
use Rattle.automata.proofs.walk.head.Goals.{then-q-lt1-via-then-q-lt1, then-q-lt1-via-else-q-lt1+then-q-gt32, then-bytes-n-via-then-bytes-n, then-bytes-n-via-else-bytes-n+then-not-none_from, then-bytes-n-via-else-bytes-n+else-not-none_from+then-not-moves_known}

pub returns-then-bytes-lt5 : goal.returns-then-bytes-lt5
returns-then-bytes-lt5 c = not-whole _ _ (λ w. omega (arith, w.long))

pub returns-then-q-lt1 : goal.returns-then-q-lt1
returns-then-q-lt1 c = not-whole _ _ (λ w. omega (arith, w.some-state, w.most-states, c.states-q.ensures, c.then-q-lt1.either))

pub returns-then-bytes-n : goal.returns-then-bytes-n
returns-then-bytes-n c =
    let e = c.states-q.ensures in
    elim c.then-bytes-n.branch [
      | then-bytes-n-via-then-bytes-n w ↦ not-whole _ _ (λ h. omega (arith, h.long, ap (λ (q : ℕ). q * c.args.k) e, w.if-bytes-n.true))
      | then-bytes-n-via-else-bytes-n+then-not-none_from w ↦
          not-whole _ _ (λ h. false≢true (sym w.if-not-none_from.true ∙ w.none_from.ensures ∙ ap₂ none_from e w.accepting.ensures ∙ h.accepting-known))
      | then-bytes-n-via-else-bytes-n+else-not-none_from+then-not-moves_known w ↦
          sym (whole-by-moves _ _ _ _ e w.accepting.ensures c.if-q-lt1.false c.if-q-gt32.false w.if-bytes-n.false (sym w.none_from.ensures ∙ w.if-not-none_from.false))
          ∙ sym w.moves_known.ensures ∙ w.if-not-moves_known.true
    ]

pub invariant_of-result : goal.invariant_of-result
invariant_of-result c = record {
  few = c.requires;
  whole = present-whole _ _ (sym (whole-by-moves _ _ _ _ c.states-q.ensures c.accepting.ensures c.if-q-lt1.false c.if-q-gt32.false c.if-bytes-n.false (sym c.none_from.ensures ∙ c.if-not-none_from.false))
      ∙ sym c.moves_known.ensures ∙ c.if-not-moves_known.false);
}

pub returns : goal.returns
returns c = (
  sym (whole-by-moves _ _ _ _ c.states-q.ensures c.accepting.ensures c.if-q-lt1.false c.if-q-gt32.false c.if-bytes-n.false (sym c.none_from.ensures ∙ c.if-not-none_from.false))
      ∙ sym c.moves_known.ensures ∙ c.if-not-moves_known.false,
  refl,
  refl,
)
