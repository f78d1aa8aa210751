use Rattle.std.proofs.Common.{◌≡◌, arith, sym}
use Rattle.numbering.proofs.ListedLaws.{ahead-taken}
use Rattle.numbering.proofs.StandLaws.{tried_start, tried_step, tried_over, successors-tried}
use Rattle.numbering.proofs.Letters.take_state.Goals as goal

pub loop-a-init : goal.loop-a-init
loop-a-init c = tried_start _ _ _

pub loop-a-preserved : goal.loop-a-preserved
loop-a-preserved c = tried_step _ _ _ _ _ c.loop-a.invariant _ c.in_ok-add.ensures

pub returns-in_err-add : goal.returns-in_err-add
returns-in_err-add c =
    let here = ahead-taken _ _ _ _ _ _ _ c.numbered.ensures c.requires c.ahead-here.ensures in
    rw (c.from_residual.ensures, successors-tried _ _ _ _ _ _ here) (tried_over _ _ _ _ _ c.loop-a.invariant _ (omega arith) c.in_err-add.ensures)

pub returns : goal.returns
returns c =
    let e : c.loop-a.a ≡ c.args.self.now.k = omega arith in
    let here = ahead-taken _ _ _ _ _ _ _ c.numbered.ensures c.requires c.ahead-here.ensures in
    rw (successors-tried _ _ _ _ _ _ here) (sym (rw e at c.loop-a.invariant))
