use Rattle.measure.proofs.StepLaws.{tidy-again, strings-kept, number-kept}
use Rattle.measure.proofs.step.Goals as goal

pub returns-in-Trim : goal.returns-in-Trim
returns-in-Trim c = tidy-again c.requires c.tidy.ensures

pub returns-in-Eq : goal.returns-in-Eq
returns-in-Eq c = strings-kept c.requires c.narrow.ensures c.is_some.ensures

pub returns-in-Neq : goal.returns-in-Neq
returns-in-Neq c = strings-kept c.requires c.narrow-in-Neq.ensures c.is_some-in-Neq.ensures

pub returns-in-Rev : goal.returns-in-Rev
returns-in-Rev c = strings-kept c.requires c.narrow-in-Rev.ensures c.is_some-in-Rev.ensures

pub returns-in-Cat : goal.returns-in-Cat
returns-in-Cat c = strings-kept c.requires c.narrow-in-Cat.ensures c.is_some-in-Cat.ensures

pub returns-in-Sub : goal.returns-in-Sub
returns-in-Sub c = number-kept c.requires c.narrow-in-Sub.ensures c.is_some-in-Sub.ensures

pub returns-in-Len : goal.returns-in-Len
returns-in-Len c = number-kept c.requires c.narrow-in-Len.ensures c.is_some-in-Len.ensures
