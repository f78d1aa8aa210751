use Rattle.model.specs.Domains.{row}
use Rattle.model.specs.Solutions.{text_bit}
use Rattle.laws.specs.Inclusion.{Within}
use Rattle.laws.specs.Supported.{Supports}
use Rattle.rev.specs.Turned.{Mirrored}
use Rattle.rev.proofs.half.Given as goal

abbrev pub invariant-loop-l : goal.invariant-loop-l
invariant-loop-l l = Within l.l-iterator.rest l.ls × Supports (Mirrored (row l.t l.x) (row l.t l.y) l.l-iterator.rest) text_bit 64 l.r
