use Rattle.std.proofs.Common.{arith}
use mathlib.Core.Path.{◌≡◌, sym, ◌∙◌}
use Prim.Native.Nat.{suc}
use native.Mathlib.Numerals.{add-one}
use borrow.Author.Count.{below_more}
use Rattle.laws.proofs.BitsLaws.{several_false}
use Rattle.inplace.proofs.Parts.{tidy-lengths}
use Rattle.neq.proofs.OneStringLaws.{row-several, row-single}
use Rattle.neq.proofs.one_string.Goals as goal

pub returns-then-several : goal.returns-then-several
returns-then-several c =
    row-several _ _ 0 _ c.requires.0 (omega arith) (omega arith) (sym c.several.ensures ∙ c.if-several.true)

pub highest-top-requires : goal.highest-top-requires
highest-top-requires c = tidy-lengths _ _ c.requires.1

pub returns-then-several-2 : goal.returns-then-several-2
returns-then-several-2 c =
    let s = c.highest-top.ensures.small in
    row-several _ _ (suc c.loop-i.i) _ c.requires.0 (omega arith) (omega arith) (sym c.several-in-loop-i.ensures ∙ c.if-several-2.true)

pub loop-i-preserved : goal.loop-i-preserved
loop-i-preserved c =
    below_more _ _ c.loop-i.invariant (several_false _ (simp add-one at (sym c.several-in-loop-i.ensures ∙ c.if-several-2.false)))

pub returns : goal.returns
returns c =
    let d : c.loop-i.i ≡ c.highest-top.result = omega arith in
    row-single _ _ c.requires.0 c.requires.1 (sym c.several.ensures ∙ c.if-several.false) _ c.highest-top.ensures (λ i k. c.loop-i.invariant i (omega arith))
