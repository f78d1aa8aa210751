use Rattle.duration.proofs.DurationSteps.{whole-step, parted-step}
use Rattle.duration.proofs.narrow.Goals as goal

pub returns-then-v-lt3 : goal.returns-then-v-lt3
returns-then-v-lt3 c = whole-step _ c.if-v-lt3.true _ _ _ _ c.narrow.ensures

pub returns : goal.returns
returns c = parted-step _ c.if-v-lt3.false _ _ _ _ c.narrow-2.ensures
