-- What an iterator over the bits of a word gives next, and what it still has to give. Assumes nothing.
use Rattle.std.specs.Prelude.{◌≡◌, ℕ, ◌-◌, ◌^◌, Option, None, Some}
use Rattle.words.specs.Ends.{Lowest}
use Rattle.words.specs.declared.Bits.{Bits}

-- nothing is given where there is no bit, and else the lowest bit, which is taken off
abbrev pub TakesLowest : Bits → Option ℕ → Bits → Type 0
TakesLowest s None t = (s.rest ≡ 0) × (t.rest ≡ 0)
TakesLowest s (Some i) t = Lowest s.rest i × (t.rest ≡ s.rest - 2 ^ i)
