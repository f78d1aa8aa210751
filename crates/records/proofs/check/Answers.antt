use Rattle.std.proofs.Common.{rules, ◌≡◌, sym, ap, ◌∙◌, Err, cond}
use Rattle.refusals.proofs.NumberLaws.{number-some}
use Rattle.records.specs.Records.{standing, refusal_of}
use Rattle.records.proofs.RecordRefusalLaws.{counted, stopped, stood}
use Rattle.records.proofs.check.Goals as goal

pub returns-in_err-all_stand : goal.returns-in_err-all_stand
unfolding refusal_of
returns-in_err-all_stand c =
    let same : c.from_residual.result ≡ Err c.in_err-all_stand.field-0.0 = search rules in
    rw same (stopped _ _ (c.in_err-all_stand.ensures ∙ ap standing (counted _ _ _ _ _ c.requires.0)) (number-some _))

pub returns-then-repeated : goal.returns-then-repeated
unfolding refusal_of
returns-then-repeated c =
    ap (λ b. cond b 8 0) (sym c.if-repeated.true) ∙ stood _ _ (c.in_ok-all_stand.ensures ∙ ap standing (counted _ _ _ _ _ c.requires.0)) c.repeated.ensures

pub returns : goal.returns
unfolding refusal_of
returns c =
    ap (λ b. cond b 8 0) (sym c.if-repeated.false) ∙ stood _ _ (c.in_ok-all_stand.ensures ∙ ap standing (counted _ _ _ _ _ c.requires.0)) c.repeated.ensures
