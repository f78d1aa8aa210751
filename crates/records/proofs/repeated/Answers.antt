use Rattle.std.proofs.Common.{rules, arith, ◌≡◌, refl, true, false}
use borrow.Author.Tests.{tests}
use Rattle.std.proofs.lemmas.Iterator.{cases_from_any, YieldsList-from_range}
use Rattle.records.proofs.RecordRefusalLaws.{twice-at, found-any}
use Rattle.records.proofs.repeated.Goals as goal

pub returns : goal.returns
returns c = λ cs all.
    let p = c.args.p.now in
    let bytes = c.args.bytes.now in
    found-any p.s p.t p.d p.c bytes cs all _ (cases_from_any _ _ _
    (λ j. twice-at p.s p.t p.d p.c bytes cs all j ≡ true)
    (λ j. twice-at p.s p.t p.d p.c bytes cs all j ≡ false)
    c.any.ensures.ran
    (YieldsList-from_range 0 p.c p.c refl (omega arith))
    (λ j q k. search (rules, tests))
    (λ j q k. search (rules, tests)))
