-- What each kind of record names. Assumes nothing.
use Rattle.std.specs.Prelude.{Option, Some, None}
use Rattle.std.specs.Option.{option_to_list}
use mathlib.Core.Path.{◌≡◌, refl, sym, subst}
use mathlib.Core.List.Memᴰ
use mathlib.Core.List.{List, ◌++◌, map}
use Prim.Native.Nat.{ℕ, ◌+◌, ◌*◌, ◌<◌, ◌≤◌}
use native.Mathlib.Omega.{arith}
use lib.ListN.{length}
use Rattle.std.proofs.lemmas.List.{length-take}
use Rattle.model.specs.Domains.{Variable, str, num}
use Rattle.model.specs.Constraints.{Constraint, variables}
use Rattle.laws.specs.Inclusion.{In}
use Rattle.records.specs.declared.names.Names.{Names}
use Rattle.steps.specs.Names.{texts, numbers, Naming, Inside}
use Rattle.steps.proofs.NarrowsLaws.{str_in}

-- the strings that a constraint names are those of the list
module _ {s : ℕ} {c : Constraint} {m : Names} (n : Naming s c m) where
  pub named-text : {x : ℕ} → In x (texts m) → In (str x) (variables c)
  named-text {x} i = subst (λ (l : List Variable). In (str x) l) (sym n.names) (Memᴰ.append_left (map num n.values) (Memᴰ.map str i))

  pub text-named : {x : ℕ} → In (str x) (variables c) → In x (texts m)
  text-named {x} i = str_in (texts m) n.values x (subst (λ (l : List Variable). In (str x) l) n.names i)

-- the word of the number that is named
pub number-inside : (m : Names) (T : List ℕ) → Inside m T → {i : ℕ} → m.number ≡ Some i → i < length T
number-inside m T f {i} q = f.words i (rw q (Memᴰ.head refl))

-- the strings are at most three
pub three : (m : Names) {xs : List ℕ} → xs ≡ texts m → length xs ≤ 3
three m {xs} e = rw e (omega (arith, length-take m.count m.strings, m.most))

-- the word of a number in a table of s strings
pub of-names : (s : ℕ) (c : Constraint) (n m : Names) → variables c ≡ map str (texts n) ++ map num (numbers n) → texts m ≡ texts n
    → (n.number ≡ None → m.number ≡ None) → ((i : ℕ) → n.number ≡ Some i → m.number ≡ Some (64 * s + i)) → Naming s c m
of-names s c n m v t f g = record { values = numbers n; words = go n.number refl; names = rw t v }
  where
    go : (o : Option ℕ) → n.number ≡ o → numbers m ≡ map (λ i. 64 * s + i) (option_to_list o)
    go None q = rw (f q) refl
    go (Some i) q = rw (g i q) refl
