use Rattle.std.proofs.Common.{arith, refl}
use Rattle.compiler.proofs.SortLaws.{symbol-below, sorted_start, sorted_step}
use Rattle.compiler.proofs.sort_places.Goals as goal

pub loop-p-init : goal.loop-p-init
loop-p-init c = sorted_start _ _ refl

pub offset_bounds-places-symbol_at : goal.offset_bounds-places-symbol_at
offset_bounds-places-symbol_at c = let l = symbol-below _ _ _ c.symbol_at.ensures in omega arith

pub bounds-places-symbol_at : goal.bounds-places-symbol_at
bounds-places-symbol_at c = symbol-below _ _ _ c.symbol_at.ensures

pub bounds-places-symbol_at-in-loop-p : goal.bounds-places-symbol_at-in-loop-p
bounds-places-symbol_at-in-loop-p c = symbol-below _ _ _ c.symbol_at.ensures

pub loop-p-preserved : goal.loop-p-preserved
loop-p-preserved c = sorted_step _ _ _ _ _ c.loop-p.invariant c.symbol_at.ensures c.singleton.ensures
