-- The kinds of the symbols of a problem have one proof at most, as a ghost field asks. Assumes nothing.
use mathlib.Core.Path.{◌≡◌, refl, sym, ap, ◌∙◌}
use mathlib.Core.Logic.{◌⊎◌, inl, inr}
use mathlib.Core.HLevel.{Σ_prop_path}
use Rattle.std.proofs.Props.{props}
use mathlib.Core.List.{List}
use mathlib.Core.Option.{Option, some, some-injective, is_set}
use Prim.Native.Nat.{ℕ}
use native.Mathlib.Omega.{arith}
use lib.ListN.{length}
use Rattle.format.specs.declared.problem.Problem.{Problem}
use Rattle.steps.specs.Step.{AllKindsIn, KindsIn}

-- a value is told by the option that it is
some_prop : (o : Option ℕ) → IsProp ((t : ℕ) × (o ≡ some t))
some_prop o s t = Σ_prop_path (λ u. hlevel (props, is_set)) (some-injective _ _ (sym s.1 ∙ t.1))

all_prop : (p : Problem) (ks : List ℕ) → IsProp (AllKindsIn p ks)
all_prop p ks = hlevel (props, some_prop)

pub KindsIn-prop : (p : Problem) (ks : List ℕ) → IsProp (KindsIn p ks)
KindsIn-prop p ks (inl a) (inl b) = ap inl (let h : IsProp (length ks ≡ 0) = hlevel props in h a b)
KindsIn-prop p ks (inl a) (inr b) = absurd (let s = b.size in omega arith)
KindsIn-prop p ks (inr a) (inl b) = absurd (let s = a.size in omega arith)
KindsIn-prop p ks (inr a) (inr b) = ap inr (all_prop p ks a b)
