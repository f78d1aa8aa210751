use Rattle.std.proofs.Common.{rules, refl}
use Rattle.laws.proofs.TableLaws.{words_of}
use Rattle.striking.proofs.FileLaws.{inside, few_words, inside-trimmed, asks_trimmed, inside-narrowed, left_strikes, dead_strikes}
use Rattle.striking.proofs.constraint.Goals as goal

pub trim_named-t-requires : goal.trim_named-t-requires
trim_named-t-requires c =
    (inside c.args.p.now _ _ (words_of c.args.table.now (λ i. search rules)) (c.requires.0, c.requires.2) _ c.of_record-m.ensures, few_words c.args.p.now _ _ (words_of c.args.table.now (λ i. search rules)) (c.requires.0, c.requires.2) _ c.of_record-m.ensures)

pub holds-held-requires : goal.holds-held-requires
holds-held-requires c =
    inside-trimmed c.args.p.now _ _ (words_of c.args.table.now (λ i. search rules)) (c.requires.0, c.requires.2) _ c.of_record-m.ensures c.requires.3 c.trim_named-t.ensures

pub narrow-requires : goal.narrow-requires
narrow-requires c =
    asks_trimmed c.args.p.now _ _ (words_of c.args.table.now (λ i. search rules)) (c.requires.0, c.requires.2) _ c.of_record-m.ensures c.requires.3 c.trim_named-t.ensures c.requires.1

pub clear-requires : goal.clear-requires
clear-requires c =
    inside-narrowed c.args.p.now _ _ (words_of c.args.table.now (λ i. search rules)) (c.requires.0, c.requires.2) _ c.of_record-m.ensures c.requires.3 c.trim_named-t.ensures c.in_default.ensures

pub returns-in_default-clause-strikes : goal.returns-in_default-clause-strikes
returns-in_default-clause-strikes c =
    (dead_strikes c.args.p.now _ _ (words_of c.args.table.now (λ i. search rules)) (c.requires.0, c.requires.2) _ c.of_record-m.ensures c.requires.3 c.trim_named-t.ensures c.in_default.ensures c.holds-held.ensures c.clear.ensures refl).0

pub returns-in_default-clause-trimmed_in : goal.returns-in_default-clause-trimmed_in
returns-in_default-clause-trimmed_in c =
    (dead_strikes c.args.p.now _ _ (words_of c.args.table.now (λ i. search rules)) (c.requires.0, c.requires.2) _ c.of_record-m.ensures c.requires.3 c.trim_named-t.ensures c.in_default.ensures c.holds-held.ensures c.clear.ensures refl).1

pub returns-clause-strikes : goal.returns-clause-strikes
returns-clause-strikes c =
    (left_strikes c.args.p.now _ _ (words_of c.args.table.now (λ i. search rules)) (c.requires.0, c.requires.2) _ c.of_record-m.ensures c.requires.3 c.trim_named-t.ensures c.in-Some.ensures refl refl refl).0

pub returns-clause-trimmed_in : goal.returns-clause-trimmed_in
returns-clause-trimmed_in c =
    (left_strikes c.args.p.now _ _ (words_of c.args.table.now (λ i. search rules)) (c.requires.0, c.requires.2) _ c.of_record-m.ensures c.requires.3 c.trim_named-t.ensures c.in-Some.ensures refl refl refl).1
