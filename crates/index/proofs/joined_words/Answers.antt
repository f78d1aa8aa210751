use Rattle.std.proofs.Common.{rules}
use Prim.Native.Nat.{◌+◌, ◌*◌}
use mathlib.Core.Path.{refl}
use Rattle.model.specs.Words.{word, union}
use Rattle.index.proofs.StandingLaws.{next-lent, union-step}
use Rattle.index.proofs.joined_words.Goals as goal

pub loop-i-init : goal.loop-i-init
unfolding union
loop-i-init c = refl

pub overflow_mul-w : goal.overflow_mul-w
overflow_mul-w c =
    let k = next-lent _ _ _ c.listed-i-items.ensures c.requires.1 _ c.loop-i-test.true in
    search rules

pub overflow_add-w : goal.overflow_add-w
overflow_add-w c =
    let k = next-lent _ _ _ c.listed-i-items.ensures c.requires.1 _ c.loop-i-test.true in
    search rules

pub offset_bounds-index-i : goal.offset_bounds-index-i
offset_bounds-index-i c =
    let k = next-lent _ _ _ c.listed-i-items.ensures c.requires.1 _ c.loop-i-test.true in
    search rules

pub bounds-index-i : goal.bounds-index-i
bounds-index-i c =
    let k = next-lent _ _ _ c.listed-i-items.ensures c.requires.1 _ c.loop-i-test.true in
    search rules

pub loop-i-preserved : goal.loop-i-preserved
loop-i-preserved c =
    union-step (λ i. word c.args.index.now (2 * i + c.args.h)) _ _ _ c.loop-i-test.true c.loop-i.invariant
