use Rattle.std.proofs.Common.{rules}
use mathlib.Core.Path.{refl}
use Rattle.model.specs.Reading.{kinds, kind_of}
use Rattle.records.specs.Records.{constraint_of, decoded_of}
use Rattle.records.proofs.RecordLaws.{bound, of_kind, no_kind}
use Rattle.records.proofs.decode.Goals as goal

pub returns-in-1 : goal.returns-in-1
unfolding kind_of kinds bound constraint_of
returns-in-1 c = of_kind _ _ _ 1 _ _ _ _ _ refl c.in-1.is c.below.ensures c.then_some.ensures refl

pub returns-in-2 : goal.returns-in-2
unfolding kind_of kinds bound constraint_of
returns-in-2 c = of_kind _ _ _ 2 _ _ _ _ _ refl c.in-2.is c.below-in-2.ensures c.then_some-in-2.ensures refl

pub returns-in-3 : goal.returns-in-3
unfolding kind_of kinds bound constraint_of
returns-in-3 c = of_kind _ _ _ 3 _ _ _ _ _ refl c.in-3.is c.below-in-3.ensures c.then_some-in-3.ensures refl

pub returns-in-4 : goal.returns-in-4
unfolding kind_of kinds bound constraint_of
returns-in-4 c = of_kind _ _ _ 4 _ _ _ _ _ refl c.in-4.is c.below-in-4.ensures c.then_some-in-4.ensures refl

pub returns-in-5 : goal.returns-in-5
unfolding kind_of kinds bound constraint_of
returns-in-5 c = of_kind _ _ _ 5 _ _ _ _ _ refl c.in-5.is c.below-in-5.ensures c.then_some-in-5.ensures refl

pub returns-in-6 : goal.returns-in-6
unfolding kind_of kinds bound constraint_of
returns-in-6 c = of_kind _ _ _ 6 _ _ _ _ _ refl c.in-6.is c.below-in-6.ensures c.then_some-in-6.ensures refl

pub returns-in-7 : goal.returns-in-7
unfolding kind_of kinds bound constraint_of
returns-in-7 c = of_kind _ _ _ 7 _ _ _ _ _ refl c.in-7.is c.below-in-7.ensures c.then_some-in-7.ensures refl

pub returns-in_default : goal.returns-in_default
unfolding decoded_of
returns-in_default c = no_kind _ _ _ _ (search rules) (search rules) (search rules) (search rules) (search rules) (search rules) (search rules)
