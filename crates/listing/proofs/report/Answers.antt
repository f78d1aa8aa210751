use mathlib.Core.Path.{◌≡◌, refl, ◌∙◌}
use Rattle.std.specs.Prelude.{Err}
use Rattle.std.proofs.Common.{arith, rules}
use Rattle.listing.proofs.ReportLaws.{longer-refused, file-replied, file-refused, counted}
use Rattle.listing.proofs.report.Goals as goal

pub returns-then-input-gt-LARGEST : goal.returns-then-input-gt-LARGEST
returns-then-input-gt-LARGEST c = (longer-refused c.args.input.now _ (omega arith), refl)

pub returns-in_err-h : goal.returns-in_err-h
returns-in_err-h c =
    let same : c.from_residual.result ≡ Err c.in_err-h.field-0.0 = search rules in
    rw same (file-replied c.args.input.now _ (omega arith) ∙ file-refused c.args.input.now _ c.in_err-h.ensures _ refl, refl)

pub lend-requires : goal.lend-requires
lend-requires c = (counted _ _ c.in_ok-h.ensures _ refl, c.requires)

pub returns : goal.returns
returns c = rw (file-replied c.args.input.now _ (omega arith)) c.lend.ensures
