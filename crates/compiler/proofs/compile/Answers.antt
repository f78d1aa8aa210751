use Rattle.std.proofs.Common.{◌≡◌, sym, ◌∙◌, arith, Err, rules}
use Rattle.std.proofs.lemmas.Option.{MatchOption-at_none, MatchOption-at_some}
use Rattle.refusals.specs.declared.Refusal.TheVariants.{Pattern, States}
use Rattle.numbering.proofs.StandLaws.{stands-taken}
use Rattle.compiler.proofs.TestLaws.{letters-all}
use Rattle.compiler.proofs.AnswerLaws.{told_long, told_bad, told_few, told_many, told_letters, told_states, told_room, told_written}
use Rattle.compiler.proofs.compile.Goals.{then-k-lt1-via-then-k-lt1, then-k-lt1-via-else-k-lt1+then-k-gt64, then-k-lt1-via-else-k-lt1+else-k-gt64+then-not-letters_below}
use Rattle.compiler.proofs.compile.Goals as goal

pub returns-then-text-gt63 : goal.returns-then-text-gt63
returns-then-text-gt63 c = told_long _ _ c.args.buffer.now c.if-text-gt63.true

pub returns-in_err-part : goal.returns-in_err-part
returns-in_err-part c =
    let e : c.from_residual.result ≡ Err Pattern = search rules in
    rw e (told_bad _ c.if-text-gt63.false _ c.args.buffer.now _ _ c.read_text.ensures c.in_err-part.ensures.ok_part)

pub returns-then-k-lt1 : goal.returns-then-k-lt1
returns-then-k-lt1 c = elim c.then-k-lt1.branch [
  | then-k-lt1-via-then-k-lt1 w ↦
      told_few _ c.if-text-gt63.false _ c.args.buffer.now _ _ c.read_text.ensures _ c.in_ok-part.ensures.ok_part w.if-k-lt1.true
  | then-k-lt1-via-else-k-lt1+then-k-gt64 w ↦
      told_many _ c.if-text-gt63.false _ c.args.buffer.now _ _ c.read_text.ensures _ c.in_ok-part.ensures.ok_part w.if-k-gt64.true
  | then-k-lt1-via-else-k-lt1+else-k-gt64+then-not-letters_below w ↦
      told_letters _ c.if-text-gt63.false _ c.args.buffer.now _ _ c.read_text.ensures _ c.in_ok-part.ensures.ok_part w.if-k-lt1.false w.if-k-gt64.false
      (sym (w.letters_below.ensures ∙ letters-all _ _) ∙ w.if-not-letters_below.true)
]

pub returns-in_err-states : goal.returns-in_err-states
returns-in_err-states c =
    let e : c.from_residual-in_err-states.result ≡ Err States = search rules in
    rw e (told_states _ c.if-text-gt63.false _ c.args.buffer.now _ _ c.read_text.ensures _ c.in_ok-part.ensures.ok_part c.if-k-lt1.false c.if-k-gt64.false
    (sym (c.letters_below.ensures ∙ letters-all _ _) ∙ c.if-not-letters_below.false) _ c.sort_places.ensures (MatchOption-at_none _ _ c.in_err-states.ensures.ok_part c.number_states.ensures))

pub returns-then-buffer-size : goal.returns-then-buffer-size
returns-then-buffer-size c =
    told_room _ c.if-text-gt63.false _ c.args.buffer.now _ _ c.read_text.ensures _ c.in_ok-part.ensures.ok_part c.if-k-lt1.false c.if-k-gt64.false
    (sym (c.letters_below.ensures ∙ letters-all _ _) ∙ c.if-not-letters_below.false) _ c.sort_places.ensures _ _
    (stands-taken _ _ _ (MatchOption-at_some _ _ _ c.in_ok-states.ensures.ok_part c.number_states.ensures) _ (omega arith) c.numbered-sets.ensures) (search rules) c.if-buffer-size.true

pub returns : goal.returns
returns c =
    told_written _ c.if-text-gt63.false _ c.args.buffer.now _ _ c.read_text.ensures _ c.in_ok-part.ensures.ok_part c.if-k-lt1.false c.if-k-gt64.false
    (sym (c.letters_below.ensures ∙ letters-all _ _) ∙ c.if-not-letters_below.false) _ c.sort_places.ensures _ _
    (stands-taken _ _ _ (MatchOption-at_some _ _ _ c.in_ok-states.ensures.ok_part c.number_states.ensures) _ (omega arith) c.numbered-sets.ensures) (search rules) _ _ _ c.if-buffer-size.false
    (omega arith) c.accepting.ensures c.write_head.ensures c.write_rows.ensures
