use Rattle.std.proofs.Common.{rules}
use Rattle.laws.proofs.TableLaws.{words_of}
use Rattle.rev.proofs.TurnLaws.{widen_none, widen-some}
use Rattle.rev.proofs.widen.Goals as goal

pub returns-then-turns : goal.returns-then-turns
returns-then-turns c =
    widen-some _ _ _ _ (words_of c.args.t.now (λ i. search rules)) c.requires.small c.requires.in_x c.requires.in_y _
    c.turns.ensures
    c.if-turns.true _ _ c.add.ensures _ c.singleton.ensures

pub returns-else-turns : goal.returns-else-turns
returns-else-turns c =
    widen_none _ _ _ _ (words_of c.args.t.now (λ i. search rules)) c.requires.small c.requires.in_x c.requires.in_y _
    c.turns.ensures
    c.if-turns.false _
