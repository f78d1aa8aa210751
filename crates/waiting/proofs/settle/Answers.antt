use Rattle.std.proofs.Common.{rules, sym, ◌∙◌}
use Rattle.std.proofs.lemmas.Bool.{false≢true}
use Rattle.laws.proofs.TableLaws.{words_of}
use Rattle.waiting.proofs.SettleLaws.{inside_asks, ready_asks, settle_unready, lengths_asks, settle-empty, run_asks, settle-dead, settle-done}
use Rattle.waiting.proofs.settle.Goals.{then-ready, else-ready, then-has_lengths, else-has_lengths}
use Rattle.waiting.proofs.settle.Goals as goal

pub first_waiting-start-requires : goal.first_waiting-start-requires
first_waiting-start-requires c =
    inside_asks c.args.p.now _ _ (words_of c.args.table.now (λ i. search rules)) c.requires

pub ready-requires : goal.ready-requires
ready-requires c = ready_asks c.args.p.now _ _ (words_of c.args.table.now (λ i. search rules)) c.requires

pub has_lengths-requires : goal.has_lengths-requires
has_lengths-requires c = lengths_asks c.args.p.now _ _ (words_of c.args.table.now (λ i. search rules)) c.requires c.ready.ensures

pub run-requires : goal.run-requires
run-requires c =
    let bd = words_of c.args.table.now (λ i. search rules) in
    elim c.if-ready.branch [
      | then-ready v ↦ run_asks c.args.p.now _ _ bd c.requires c.ready.ensures v.if-ready.true c.first_waiting-start.ensures v.has_lengths.ensures (sym v.value-is ∙ c.if-has_lengths.true)
      | else-ready v ↦ absurd (false≢true (sym v.if-ready.false ∙ sym v.value-is ∙ c.if-has_lengths.true))
    ]

pub every_value-requires : goal.every_value-requires
every_value-requires c =
    let bd = words_of c.args.table.now (λ i. search rules) in
    rw c.if-has_lengths.auto.table (lengths_asks c.args.p.now _ _ bd c.requires c.ready.ensures)

pub returns-then-run : goal.returns-then-run
returns-then-run c =
    let bd = words_of c.args.table.now (λ i. search rules) in
    elim c.if-has_lengths.branch [
      | then-has_lengths w ↦ elim c.if-ready.branch [
        | then-ready v ↦ settle-done c.args.p.now _ _ bd c.requires c.ready.ensures v.if-ready.true c.first_waiting-start.ensures (rw w.table-is w.run.ensures) (sym w.value-is ∙ c.if-run.true) c.every_value.ensures
        | else-ready v ↦ absurd (false≢true (sym v.if-ready.false ∙ sym v.value-is ∙ w.if-has_lengths.true))
      ]
      | else-has_lengths w ↦ absurd (false≢true (sym w.if-has_lengths.false ∙ sym w.value-is ∙ c.if-run.true))
    ]

pub returns-else-run : goal.returns-else-run
returns-else-run c =
    let bd = words_of c.args.table.now (λ i. search rules) in
    rw c.if-run.false (elim c.if-has_lengths.branch [
      | then-has_lengths w ↦ elim c.if-ready.branch [
        | then-ready v ↦ settle-dead c.args.p.now _ _ bd c.requires c.ready.ensures v.if-ready.true c.first_waiting-start.ensures (rw w.table-is w.run.ensures) (sym w.value-is ∙ c.if-run.false)
        | else-ready v ↦ absurd (false≢true (sym v.if-ready.false ∙ sym v.value-is ∙ w.if-has_lengths.true))
      ]
      | else-has_lengths w ↦ rw w.table-is (elim c.if-ready.branch [
        | then-ready v ↦ settle-empty c.args.p.now _ _ bd c.requires c.ready.ensures v.if-ready.true c.first_waiting-start.ensures v.has_lengths.ensures (sym v.value-is ∙ w.if-has_lengths.false)
        | else-ready v ↦ settle_unready c.args.p.now _ _ bd c.requires c.ready.ensures v.if-ready.false
      ])
    ])
