use Rattle.std.proofs.Common.{rules, refl}
use Rattle.steps.proofs.NamingLaws.{of-names}
use Rattle.steps.proofs.of_record.Goals as goal

pub returns : goal.returns
returns c = of-names _ _ c.names-count.result _ c.names-count.ensures.0 refl (λ e. search rules) (λ i e. search rules)
