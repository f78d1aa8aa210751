use Rattle.std.proofs.Common.{rules}
use Rattle.inplace.proofs.Tables.{shorten-same, shorten-less, bit-some}
use Rattle.inplace.proofs.shorten.Goals as goal

pub returns-then-old-ls : goal.returns-then-old-ls
returns-then-old-ls c =
    shorten-same _ _ _ c.requires c.if-old-ls.true

pub highest-requires-2 : goal.highest-requires-2
highest-requires-2 c = bit-some _ _ (c.requires.within _ c.highest.ensures.here)

pub returns : goal.returns
returns c =
    shorten-less _ _ _ c.requires (search rules) _ _ c.highest.ensures c.highest-2.ensures _ c.clear.ensures
