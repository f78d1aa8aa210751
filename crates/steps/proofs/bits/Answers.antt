use Rattle.std.proofs.Common.{arith, ◌∙◌, ap, ◌≡◌, ◌+◌, ◌-◌, ◌*◌, take, drop}
use Rattle.model.specs.Words.{size}
use Rattle.model.specs.Domains.{row}
use Rattle.steps.proofs.bits.Goals as goal

pub returns : goal.returns
unfolding row
returns c =
    let e : 64 * c.args.x + 64 - 64 * c.args.x ≡ 64 = omega arith in
    c.size.ensures ∙ ap (λ n. size (take n (drop (64 * c.args.x) c.args.table.now))) e
