-- The highest and the lowest set bit of a word. Assumes nothing.
use Rattle.std.specs.Prelude.{◌≡◌, true, false, ℕ, ◌<◌}
use Rattle.model.specs.Words.{bit}

-- r is the highest set bit of w
pub record Highest (w r : ℕ) : Type 0 where
  pub small : r < 64
  pub here : bit w r ≡ true
  pub above : (i : ℕ) → r < i → bit w i ≡ false

-- r is the lowest set bit of w
pub record Lowest (w r : ℕ) : Type 0 where
  pub small : r < 64
  pub here : bit w r ≡ true
  pub below : (i : ℕ) → i < r → bit w i ≡ false
