use Rattle.std.proofs.Common.{sym, ◌∙◌}
use Rattle.model.specs.PatternStates.{when}
use Rattle.compiler.proofs.final_bit.Goals as goal

pub returns-then-is_final : goal.returns-then-is_final
unfolding when
returns-then-is_final c = rw (sym c.is_final.ensures ∙ c.if-is_final.true) c.singleton.ensures

pub returns-else-is_final : goal.returns-else-is_final
unfolding when
returns-else-is_final c = rw (sym c.is_final.ensures ∙ c.if-is_final.false)
