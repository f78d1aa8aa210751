-- The letters of a pattern lie from one place up to another, those of its left part before those of its right part. Assumes nothing.
use mathlib.Core.Path.{◌≡◌}
use mathlib.Core.Logic.{⊎_elim}
use mathlib.Core.Bool.{true}
use Prim.Native.Nat.{ℕ, ◌≤◌, ◌<◌}
use native.Mathlib.Omega.{arith}
use lib.Bits.{bit_or}
use Rattle.model.specs.Words.{bit}
use Rattle.laws.proofs.WordLaws.{of-or-bit, pow-only}
use Rattle.model.specs.Pattern.{Pattern, empty, letter, either, both, many}
use Rattle.model.specs.PatternStates.{nullable, last, follow}
use Rattle.patterns.proofs.Splits.{zero-none, of-when}

-- every letter of the pattern lies at lo or after it, and before hi
unfoldable pub Spans : Pattern → ℕ → ℕ → Type 0
Spans empty lo hi = lo ≤ hi
Spans (letter p) lo hi = (lo ≤ p) × (p < hi)
Spans (either e f) lo hi = (mid : ℕ) × Spans e lo mid × Spans f mid hi
Spans (both e f) lo hi = (mid : ℕ) × Spans e lo mid × Spans f mid hi
Spans (many e) lo hi = Spans e lo hi

-- lo is not after hi
pub spans_le : (e : Pattern) {lo hi : ℕ} → Spans e lo hi → lo ≤ hi
unfolding Spans
spans_le empty s = s
spans_le (letter p) s = omega arith
spans_le (either e f) s = let a = spans_le e s.1 in let b = spans_le f s.2 in omega arith
spans_le (both e f) s = let a = spans_le e s.1 in let b = spans_le f s.2 in omega arith
spans_le (many e) s = spans_le e s

-- an earlier lo and a later hi do as well
pub spans_wider : (e : Pattern) {lo hi lo' hi' : ℕ} → lo' ≤ lo → hi ≤ hi' → Spans e lo hi → Spans e lo' hi'
unfolding Spans
spans_wider empty l h s = omega arith
spans_wider (letter p) l h s = omega arith
spans_wider (either e f) l h s = (s.0, spans_wider e l (omega arith) s.1, spans_wider f (omega arith) h s.2)
spans_wider (both e f) l h s = (s.0, spans_wider e l (omega arith) s.1, spans_wider f (omega arith) h s.2)
spans_wider (many e) l h s = spans_wider e l h s

-- what follows from a place in either set follows from a place in their union
pub join_inside : {B : Type 0} (a c q : ℕ) → bit (bit_or a c) q ≡ true → (bit a q ≡ true → B) → (bit c q ≡ true → B) → B
join_inside a c q h f g = ⊎_elim f g (of-or-bit a c q h)

-- a place of the left part is one of the whole, and so is a place of the right part
pub left-inside : (f : Pattern) {lo mid hi q : ℕ} → Spans f mid hi → (lo ≤ q) × (q < mid) → (lo ≤ q) × (q < hi)
left-inside f s i = let l = spans_le f s in omega arith

pub right-inside : (e : Pattern) {lo mid hi q : ℕ} → Spans e lo mid → (mid ≤ q) × (q < hi) → (lo ≤ q) × (q < hi)
right-inside e s i = let l = spans_le e s in omega arith

-- a last letter is the pattern's
pub last-inside : (e : Pattern) {lo hi p : ℕ} → Spans e lo hi → bit (last e) p ≡ true → (lo ≤ p) × (p < hi)
unfolding Spans last
last-inside empty {p = p} s h = zero-none p h
last-inside (letter q) {p = p} s h = let k = pow-only q p h in omega arith
last-inside (either e f) s h = join_inside _ _ _ h
    (λ k. left-inside f s.2 (last-inside e s.1 k))
    (λ k. right-inside e s.1 (last-inside f s.2 k))
last-inside (both e f) s h = join_inside _ _ _ h
    (λ k. left-inside f s.2 (last-inside e s.1 (of-when (nullable f) (last e) _ k).1))
    (λ k. right-inside e s.1 (last-inside f s.2 k))
last-inside (many e) s h = last-inside e s h

-- and so is a letter that another one follows
pub follow-from : (e : Pattern) {lo hi p : ℕ} (q : ℕ) → Spans e lo hi → bit (follow e p) q ≡ true → (lo ≤ p) × (p < hi)
unfolding Spans follow
follow-from empty q s h = zero-none q h
follow-from (letter o) q s h = zero-none q h
follow-from (either e f) q s h = join_inside _ _ _ h
    (λ k. left-inside f s.2 (follow-from e q s.1 k))
    (λ k. right-inside e s.1 (follow-from f q s.2 k))
follow-from (both e f) q s h = join_inside _ _ _ h
    (λ h'. join_inside _ _ _ h'
    (λ k. left-inside f s.2 (follow-from e q s.1 k))
    (λ k. right-inside e s.1 (follow-from f q s.2 k)))
    (λ k. left-inside f s.2 (last-inside e s.1 (of-when _ _ q k).0))
follow-from (many e) q s h = join_inside _ _ _ h (λ k. follow-from e q s k) (λ k. last-inside e s (of-when _ _ q k).0)
