use Prim.Native.Nat.{◌/◌, ◌^◌}
use lib.Bits.{and_mask}
use Rattle.model.specs.Words.{bit}
use Rattle.words.proofs.has.Goals as goal

pub returns : goal.returns
unfolding bit
returns c = rw (and_mask (c.args.w / 2 ^ c.args.i) 1)
