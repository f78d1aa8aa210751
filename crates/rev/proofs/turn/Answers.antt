use Rattle.std.proofs.Common.{arith}
use mathlib.Core.Path.{refl, sym, ◌∙◌}
use borrow.Author.Count.{below_more}
use Rattle.inplace.proofs.Writing.{written-turn}
use Rattle.rev.proofs.TurnLaws.{turn-read, turn_none}
use Rattle.rev.proofs.turn.Goals as goal

pub returns-then-w-eq0 : goal.returns-then-w-eq0
returns-then-w-eq0 c =
    let z = turn-read _ _ _ _ _ _ _ c.loop-m.invariant.written c.loop-m-test.true c.requires.2 in
    turn_none _ _ _ _ _ _ _ c.loop-m-test.true (sym z ∙ c.if-w-eq0.true) c.loop-m.invariant

pub loop-m-preserved : goal.loop-m-preserved
loop-m-preserved c =
    let z = turn-read _ _ _ _ _ _ _ c.loop-m.invariant.written c.loop-m-test.true c.requires.2 in
    let n = c.if-w-eq0.false in
    record {
      filled = below_more _ _ c.loop-m.invariant.filled (omega arith);
      written = written-turn _ _ _ _ _ _ c.loop-m.invariant.written (omega arith) _ z _ _ _ c.put-changed.ensures refl;
    }
