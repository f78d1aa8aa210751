-- Laws of replies: an answer has passed every test on its way. Assumes nothing.
use mathlib.Core.Path.{◌≡◌, refl}
use mathlib.Core.Bool.{Bool, true, false}
use mathlib.Core.Option.{Option, none, some}
use Prim.Native.Nat.{ℕ}
use native.Mathlib.Omega.{arith}
use Rattle.model.specs.Replies.{Reply, refused, answered, require, obtain, and_then}

pub refused≢answered : {A : Type 0} {n : ℕ} {a : A} → refused n ≡ answered a → ⊥
refused≢answered {A} {n} {a} e = let z : ◌≡◌ {A = ℕ} 0 1 = cc in omega arith

pub answered_inj : {A : Type 0} {a b : A} → answered a ≡ answered b → a ≡ b
answered_inj {A} {a} {b} e = cc

pub require-answered : {A : Type 0} (t : Bool) (n : ℕ) (r : Reply A) (a : A) → require t n r ≡ answered a → (t ≡ true) × (r ≡ answered a)
unfolding require
require-answered true n r a e = (refl, e)
require-answered false n r a e = absurd (refused≢answered e)

pub obtain-answered : {A B : Type 0} (o : Option A) (n : ℕ) (f : A → Reply B) (b : B) → obtain o n f ≡ answered b → (a : A) × (o ≡ some a) × (f a ≡ answered b)
unfolding obtain
obtain-answered none n f b e = absurd (refused≢answered e)
obtain-answered (some a) n f b e = (a, refl, e)

pub and_then-answered : {A B : Type 0} (r : Reply A) (f : A → Reply B) (b : B) → and_then r f ≡ answered b → (a : A) × (r ≡ answered a) × (f a ≡ answered b)
unfolding and_then
and_then-answered (refused n) f b e = absurd (refused≢answered e)
and_then-answered (answered a) f b e = (a, refl, e)
