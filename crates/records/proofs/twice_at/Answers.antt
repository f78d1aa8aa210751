use Rattle.std.proofs.Common.{rules, ap, ◌∙◌}
use Rattle.records.specs.Records.{repeating}
use Rattle.records.proofs.RecordRefusalLaws.{twice-decoded}
use Rattle.records.proofs.twice_at.Goals as goal

pub returns : goal.returns
returns c = twice-decoded _ _ _ c.is_some_and.ensures (λ r q. search rules) ∙ ap repeating c.at.ensures
