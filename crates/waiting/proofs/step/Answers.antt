use Rattle.std.proofs.Common.{rules, ◌≡◌, None}
use Rattle.laws.proofs.TableLaws.{words_of}
use Rattle.waiting.proofs.StepLaws.{narrow_asks, waking_asks, turned-dead, turned-woken}
use Rattle.waiting.proofs.step.Goals as goal

pub narrow-requires : goal.narrow-requires
narrow-requires c =
    narrow_asks c.args.p.now _ (words_of c.args.table.now (λ i. search rules)) _ c.requires _ c.constraint-r.ensures

pub returns-in_err-changed : goal.returns-in_err-changed
returns-in_err-changed c =
    let e : c.from_residual.result ≡ None = search rules in
    rw e (turned-dead c.args.p.now _ (words_of c.args.table.now (λ i. search rules)) _ c.requires _ c.constraint-r.ensures c.in_err-changed.ensures)

pub waking-woken-requires : goal.waking-woken-requires
waking-woken-requires c =
    waking_asks c.args.p.now _ (words_of c.args.table.now (λ i. search rules)) _ c.requires _ c.constraint-r.ensures

pub returns : goal.returns
returns c =
    turned-woken c.args.p.now _ (words_of c.args.table.now (λ i. search rules)) _ c.requires _ c.constraint-r.ensures c.in_ok-changed.ensures
    c.waking-woken.ensures c.singleton.ensures
