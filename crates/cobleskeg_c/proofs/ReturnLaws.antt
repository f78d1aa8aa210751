-- What a call returns and writes, by what it replies. Assumes nothing.
use mathlib.Core.Path.{◌≡◌, ap}
use Prim.Native.Nat.{ℕ}
use Rattle.model.specs.Replies.{Reply, refused, answered}
use Rattle.cobleskeg_c.specs.Numbers.{refusal, writes}

module _ {A : Type 0} (r : Reply A) where
  module _ (n : ℕ) (e : refused n ≡ r) where
    pub refused-number : n ≡ refusal r
    unfolding refusal
    refused-number = ap refusal e

    pub refused-stays : (f : A → ℕ) (old : ℕ) → old ≡ writes f r old
    unfolding writes
    refused-stays f old = ap (λ r. writes f r old) e

  module _ (a : A) (e : answered a ≡ r) where
    pub answered-number : 0 ≡ refusal r
    unfolding refusal
    answered-number = ap refusal e

    pub answered-written : (f : A → ℕ) (old : ℕ) → f a ≡ writes f r old
    unfolding writes
    answered-written f old = ap (λ r. writes f r old) e
