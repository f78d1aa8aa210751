use Rattle.std.proofs.Common.{rules}
use Rattle.laws.proofs.TableLaws.{words_of}
use Rattle.striking.proofs.FileLaws.{inside, narrow_asks, no-choice-left}
use Rattle.striking.proofs.narrow.Goals as goal

pub have_lengths-requires : goal.have_lengths-requires
have_lengths-requires c =
    inside c.args.p.now _ _ (words_of c.args.table.now (λ i. search rules)) (c.requires.0, c.requires.2) _ c.requires.3

pub returns-then-not-have_lengths : goal.returns-then-not-have_lengths
returns-then-not-have_lengths c =
    no-choice-left c.args.p.now _ _ (words_of c.args.table.now (λ i. search rules)) (c.requires.0, c.requires.2) _ c.requires.3 c.requires.4 c.have_lengths.ensures (c.if-not-have_lengths.true)

pub narrow-requires : goal.narrow-requires
narrow-requires c =
    narrow_asks c.args.p.now _ _ (words_of c.args.table.now (λ i. search rules)) (c.requires.0, c.requires.2) _ c.requires.3 c.requires.4 c.have_lengths.ensures c.requires.1 (c.if-not-have_lengths.false)
