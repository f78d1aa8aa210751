use Rattle.std.proofs.Common.{sym, length-take-le}
use Rattle.cobleskeg.proofs.CompileEntryLaws.{written-within}
use Rattle.rule.proofs.answer.Goals as goal

pub slice_bounds-write_all-end-in-Ok-2 : goal.slice_bounds-write_all-end-in-Ok-2
slice_bounds-write_all-end-in-Ok-2 g c = written-within _ _ _ _ _ c.in-Ok.ensures.result_after

pub slice_bounds-write_all-end-in-Ok-3 : goal.slice_bounds-write_all-end-in-Ok-3
slice_bounds-write_all-end-in-Ok-3 g c = sym (length-take-le _ _ (written-within _ _ _ _ _ c.in-Ok.ensures.result_after))
