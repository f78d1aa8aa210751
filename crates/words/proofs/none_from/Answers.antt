use Rattle.std.proofs.Common.{arith, rules}
use mathlib.Core.Path.{◌≡◌}
use Prim.Native.Nat.{◌+◌, ◌-◌}
use Rattle.words.proofs.NoneFromLaws.{leb-none_from}
use Rattle.words.proofs.none_from.Goals as goal

pub returns : goal.returns
returns c =
    let k = c.args.k in
    let e : k - 1 + 1 ≡ k = omega arith in
    rw (c.low_mask.ensures, e) (leb-none_from k c.args.w (search rules))
