use Rattle.model.specs.Layout.{part}
use Rattle.reader.proofs.NumberLaws.{ReadBack}
use Rattle.reader.proofs.number_at.Given as goal

abbrev pub invariant-loop-byte : goal.invariant-loop-byte
invariant-loop-byte l = ReadBack (part l.at l.n l.bytes) l.byte-iterator.iter.rest.now l.r
