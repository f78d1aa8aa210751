use Rattle.std.proofs.Common.{ℕ, List, take, ap, ◌∙◌}
use Rattle.compiler.proofs.BufferLaws.{headed}
use Rattle.compiler.proofs.write_head.Goals as goal

pub returns : goal.returns
returns c = headed _ _ _ _ c.requires.in_bounds (c.copy_from_slice.ensures.after ∙ ap (λ (bs : List ℕ). take 4 bs) c.to_le_bytes.ensures)
