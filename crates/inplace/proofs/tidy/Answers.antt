use Rattle.std.proofs.Common.{rules}
use Rattle.laws.proofs.TableLaws.{words_of}
use Rattle.inplace.proofs.Tables.{tidy-empty, tidy-none, tidy-some}
use Rattle.inplace.proofs.tidy.Goals as goal

pub returns-then-old-eq0 : goal.returns-then-old-eq0
returns-then-old-eq0 c =
    tidy-empty _ _ (search rules) (words_of c.args.t.now (λ i. (c.type_inv.t i).fits)) c.if-old-eq0.true

pub returns-then-ls-eq0 : goal.returns-then-ls-eq0
returns-then-ls-eq0 c =
    tidy-none _ _ (search rules) (words_of c.args.t.now (λ i. search rules)) _ _ c.highest.ensures c.run.ensures _ c.low_mask.ensures c.if-ls-eq0.true

pub returns : goal.returns
returns c =
    tidy-some _ _ (search rules) (words_of c.args.t.now (λ i. search rules)) _ _ c.highest.ensures c.run.ensures _ c.low_mask.ensures _
    c.highest-2.ensures _ c.clear.ensures
