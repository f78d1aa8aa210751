use mathlib.Core.Path.{refl}
use Rattle.std.proofs.Common.{arith, rules}
use Rattle.listing.proofs.ReportLaws.{printed-nothing, printed-after}
use Rattle.listing.proofs.answer.Goals as goal

pub returns-then-lines-lt-LONGEST-clause-lines_after : goal.returns-then-lines-lt-LONGEST-clause-lines_after
returns-then-lines-lt-LONGEST-clause-lines_after c = rw (printed-nothing c.args.input.now c.args.lines.now (omega arith))

pub returns-then-lines-lt-LONGEST-clause-value : goal.returns-then-lines-lt-LONGEST-clause-value
returns-then-lines-lt-LONGEST-clause-value c = rw (printed-nothing c.args.input.now c.args.lines.now (omega arith))

pub returns-clause-lines_after : goal.returns-clause-lines_after
returns-clause-lines_after c =
    let after = (printed-after c.args.input.now refl (omega arith) c.print.ensures.0 c.print.ensures.1).0 in
    search (after, rules)

pub returns-clause-value : goal.returns-clause-value
returns-clause-value c =
    (printed-after c.args.input.now refl (omega arith) c.print.ensures.0 c.print.ensures.1).1
