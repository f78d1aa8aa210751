use Rattle.std.proofs.Common.{arith}
use Rattle.laws.proofs.WordLaws.{bit_le}
use Rattle.room.proofs.choose.Goals as goal

pub overflow_sub-room : goal.overflow_sub-room
overflow_sub-room c = let l = bit_le _ _ c.lowest.ensures.here in omega (arith, c.singleton-v.ensures, l)
