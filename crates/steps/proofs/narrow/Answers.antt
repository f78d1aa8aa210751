use Rattle.steps.proofs.KindLaws.{eq_asks, eq-narrows, neq_asks, neq-narrows, rev_asks, rev-narrows, cat_asks, cat-narrows, sub_asks, sub-narrows, len_asks, len-narrows, regular_asks, regular-of}
use Rattle.steps.proofs.narrow.Goals as goal

pub narrow-requires : goal.narrow-requires
narrow-requires c =
    eq_asks c.args.p.now _ _ _ c.requires _ _ c.in-Eq.is

pub narrow-requires-in-Neq : goal.narrow-requires-in-Neq
narrow-requires-in-Neq c =
    neq_asks c.args.p.now _ _ _ c.requires _ _ c.in-Neq.is

pub narrow-requires-in-Rev : goal.narrow-requires-in-Rev
narrow-requires-in-Rev c =
    rev_asks c.args.p.now _ _ _ c.requires _ _ c.in-Rev.is

pub narrow-requires-in-Cat : goal.narrow-requires-in-Cat
narrow-requires-in-Cat c =
    cat_asks c.args.p.now _ _ _ c.requires _ _ _ c.in-Cat.is

pub narrow-requires-in-Sub : goal.narrow-requires-in-Sub
narrow-requires-in-Sub c =
    sub_asks c.args.p.now _ _ _ c.requires _ _ _ c.in-Sub.is

pub narrow-requires-in-Len : goal.narrow-requires-in-Len
narrow-requires-in-Len c =
    len_asks c.args.p.now _ _ _ c.requires _ _ c.in-Len.is

pub regular_at-requires : goal.regular_at-requires
regular_at-requires c =
    regular_asks c.args.p.now _ _ _ c.requires _ _ c.in-Regular.is

pub returns-in-Eq : goal.returns-in-Eq
returns-in-Eq c =
    eq-narrows c.args.p.now _ _ _ c.requires _ _ c.in-Eq.is c.narrow.ensures

pub returns-in-Neq : goal.returns-in-Neq
returns-in-Neq c =
    neq-narrows c.args.p.now _ _ _ c.requires _ _ c.in-Neq.is c.narrow-in-Neq.ensures

pub returns-in-Rev : goal.returns-in-Rev
returns-in-Rev c =
    rev-narrows c.args.p.now _ _ _ c.requires _ _ c.in-Rev.is c.narrow-in-Rev.ensures

pub returns-in-Cat : goal.returns-in-Cat
returns-in-Cat c =
    cat-narrows c.args.p.now _ _ _ c.requires _ _ _ c.in-Cat.is c.narrow-in-Cat.ensures

pub returns-in-Sub : goal.returns-in-Sub
returns-in-Sub c =
    sub-narrows c.args.p.now _ _ _ c.requires _ _ _ c.in-Sub.is c.narrow-in-Sub.ensures

pub returns-in-Len : goal.returns-in-Len
returns-in-Len c =
    len-narrows c.args.p.now _ _ _ c.requires _ _ c.in-Len.is c.narrow-in-Len.ensures

pub returns-in-Regular : goal.returns-in-Regular
returns-in-Regular c =
    regular-of c.args.p.now _ _ _ c.requires _ _ c.in-Regular.is c.regular_at.ensures
