use Rattle.std.proofs.Common.{rules, refl}
use Rattle.laws.proofs.TableLaws.{words_of}
use Rattle.rev.proofs.OneLength.{one_none, one_back, one-first, one-second, one_left}
use Rattle.rev.proofs.one_length.Goals as goal

pub returns-in_err-changed_x : goal.returns-in_err-changed_x
returns-in_err-changed_x c =
    rw c.from_residual.ensures (one_none _ _ _ _ c.requires.0 (words_of c.args.t.now (λ i. search rules)) c.requires.1 _ c.highest-l.ensures _
    c.in_err-changed_x.ensures)

pub unwrap-changed_y-requires : goal.unwrap-changed_y-requires
unwrap-changed_y-requires c =
    one_back _ _ _ _ c.requires.0 (words_of c.args.t.now (λ i. search rules)) c.requires.1 _ c.highest-l.ensures _ _ c.in_ok-changed_x.ensures _ _
    c.turn-2.ensures

pub shorten-changed_x-requires : goal.shorten-changed_x-requires
shorten-changed_x-requires c =
    one-first _ _ _ _ c.requires.0 (words_of c.args.t.now (λ i. search rules)) c.requires.1 _ c.highest-l.ensures _ _ c.in_ok-changed_x.ensures _ _
    (rw c.unwrap-changed_y.ensures at c.turn-2.ensures)

pub shorten-changed_y-requires : goal.shorten-changed_y-requires
shorten-changed_y-requires c =
    one-second _ _ _ _ c.requires.0 (words_of c.args.t.now (λ i. search rules)) c.requires.1 _ c.highest-l.ensures _ _ c.in_ok-changed_x.ensures _ _
    (rw c.unwrap-changed_y.ensures at c.turn-2.ensures) _ _ c.shorten-changed_x.ensures

pub returns : goal.returns
returns c =
    one_left _ _ _ _ c.requires.0 (words_of c.args.t.now (λ i. search rules)) c.requires.1 _ c.highest-l.ensures _ _ c.in_ok-changed_x.ensures _ _
    (rw c.unwrap-changed_y.ensures at c.turn-2.ensures) _ _ c.shorten-changed_x.ensures _ _ c.shorten-changed_y.ensures _ _ refl refl
