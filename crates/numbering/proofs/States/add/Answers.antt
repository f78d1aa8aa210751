use Rattle.std.proofs.Common.{arith, sym, ◌∙◌}
use Rattle.numbering.proofs.ListedLaws.{add-old, add-full, add-new}
use Rattle.numbering.proofs.States.add.Goals as goal

pub returns-then-contains : goal.returns-then-contains
returns-then-contains c = add-old _ _ _ (omega arith) (omega arith) (sym c.contains.ensures.value ∙ c.if-contains.true)

pub returns-then-self-eq32 : goal.returns-then-self-eq32
returns-then-self-eq32 c = add-full _ _ _ (omega arith) (omega arith) (sym c.contains.ensures.value ∙ c.if-contains.false) c.if-self-eq32.true

pub returns : goal.returns
returns c = add-new _ _ _ (omega arith) (omega arith) (sym c.contains.ensures.value ∙ c.if-contains.false)
