use Rattle.std.proofs.Common.{arith, rules}
use Rattle.listing.proofs.NumeralLaws.{one_capacity, one-numeral, tenth_capacity, digit_capacity, long-numeral}
use Rattle.listing.proofs.Page.+numeral.Goals.{then-n-ge10, else-n-ge10}
use Rattle.listing.proofs.Page.+numeral.Goals as goal

pub numeral-requires : goal.numeral-requires
numeral-requires t c = (search rules, tenth_capacity c.args.n (omega arith) c.requires)

pub byte-requires : goal.byte-requires
byte-requires t c = elim c.if-n-ge10.branch [
  | then-n-ge10 w ↦ rw w.self-is (digit_capacity c.args.n (omega arith) w.numeral.ensures _ c.requires)
  | else-n-ge10 w ↦ rw w.self-is (one_capacity c.args.n (omega arith) _ c.requires)
]

pub returns : goal.returns
returns t c = elim c.if-n-ge10.branch [
  | then-n-ge10 w ↦ long-numeral c.args.n (omega arith) w.numeral.ensures (rw w.self-is at c.byte.ensures)
  | else-n-ge10 w ↦ one-numeral c.args.n (omega arith) (rw w.self-is at c.byte.ensures)
]
