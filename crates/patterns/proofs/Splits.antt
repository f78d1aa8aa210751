-- A string parted in two, a repetition with one string more at its end, and a set under a test. Assumes nothing.
use mathlib.Core.Path.{◌≡◌, refl, sym, ◌∙◌}
use mathlib.Core.Bool.{Bool, true, false, false≢true}
use mathlib.Core.List.{List, [], ◌++◌, append-nil, append_assoc}
use Prim.Native.Nat.{ℕ}
use Rattle.model.specs.Words.{bit}
use Rattle.laws.proofs.WordLaws.{zero_bit}
use Rattle.model.specs.Pattern.{Repeated, stop, more}
use Rattle.model.specs.PatternStates.{when}

-- ---- strings in two parts

-- where the second part is empty, the first one is the whole
pub before-nil : (L : List ℕ → Type 0) {w : List ℕ} (u v : List ℕ) → w ≡ u ++ v → v ≡ [] → L u → L w
before-nil L u v e n h = rw (e, n, append-nil) h

-- what is put after two parts is put after the second
pub append_right : {w : List ℕ} (u v t : List ℕ) → w ≡ u ++ v → w ++ t ≡ u ++ (v ++ t)
append_right u v t e = rw e (append_assoc u v t)

-- a repetition, and one string more at its end
pub repeated-end : {L : List ℕ → Type 0} {w u : List ℕ} (v : List ℕ) → w ≡ u ++ v → Repeated L u → L v → Repeated L w
repeated-end v e (stop k) h = more v [] (e ∙ rw (k, append-nil)) h (stop refl)
repeated-end v e (more a b k g m) h = more a (b ++ v) (e ∙ append_right a b v k) g (repeated-end v refl m h)

-- ---- sets

-- no place is in the empty set
pub zero-none : {B : Type 0} (q : ℕ) → bit 0 q ≡ true → B
zero-none q h = absurd (false≢true (sym (zero_bit q) ∙ h))

-- a place is in a set under a test just when the test passes and it is in the set
pub of-when : (t : Bool) (w q : ℕ) → bit (when t w) q ≡ true → (t ≡ true) × (bit w q ≡ true)
unfolding when
of-when true w q e = (refl, e)
of-when false w q e = zero-none q e

pub in_when : (t : Bool) (w q : ℕ) → t ≡ true → bit w q ≡ true → bit (when t w) q ≡ true
unfolding when
in_when true w q e h = h
in_when false w q e h = absurd (false≢true e)
