-- Laws of one record: its four bytes, the kinds with the bounds of their arguments, and a string that is named twice. Assumes nothing.
use Rattle.std.specs.Prelude as std
use Rattle.std.specs.Prelude.{Some, None}
use mathlib.Core.Path.{◌≡◌, refl, sym, ap, ◌∙◌}
use mathlib.Core.Logic.{◌≢◌}
use mathlib.Core.Bool.{Bool, true, false, cond, ◌&&◌, ◌||◌}
use mathlib.Core.List.{List, [], ◌∷◌, ◌++◌, map}
use Rattle.std.specs.Option.{option_to_list}
use mathlib.Core.Option.{Option, none, some, bind}
use Prim.Native.Nat.{ℕ, zero, suc, ◌+◌, ◌≤◌, ◌<◌}
use native.Mathlib.Omega.{arith}
use lib.Dec.{eqb, ltb}
use lib.ListN.{length, get_or, drop}
use Rattle.std.specs.Bool.{then_some}
use borrow.Author.Tests.{le-ltb, ne_eqb}
use Rattle.model.specs.Lists.{any, given}
use Rattle.model.specs.Domains.{Variable, str, num, same_variable}
use Rattle.model.specs.Constraints.{Constraint}
use Rattle.model.specs.Layout.{Bytes, little, part}
use Rattle.model.specs.Reading.{Sort, string, number, machine, unused, names, Kind, kinds, kind_of, decode, repeats}
use Rattle.std.specs.Int.{w32, to_le_bytes}
use Rattle.std.proofs.lemmas.Nat.{le_bytes_4}
use Rattle.laws.proofs.LayoutLaws.{part_length}
use Rattle.laws.proofs.ReadingLaws.{take-bytes, drop-bytes}
use Rattle.little.proofs.LittleLaws.{little-bytes_4}
use Rattle.records.specs.declared.Record.{Record}
use Rattle.records.specs.Records.{constraint_of, decoded_of}

-- ---- what decoding answered

pub is-constraint : {o : std.Option Record} {m : Option Constraint} {r : Record} → decoded_of o ≡ m → o ≡ Some r → m ≡ some (constraint_of r)
unfolding decoded_of
is-constraint e q = sym e ∙ ap decoded_of q

pub is_none : {o : std.Option Record} {m : Option Constraint} → decoded_of o ≡ m → o ≡ None → m ≡ none
unfolding decoded_of
is_none e q = sym e ∙ ap decoded_of q

-- ---- its bytes

-- the number that a record's bytes are has these bytes
pub of_number : (i : ℕ) (bs : List ℕ) → Bytes bs → i + 4 ≤ length bs → to_le_bytes w32 (little (part i 4 bs)) ≡ part i 4 bs
of_number i bs small h =
    let size = part_length i 4 bs h in
    le_bytes_4 (part i 4 bs) (little (part i 4 bs)) size (take-bytes 4 (drop i bs) (drop-bytes i bs small)) (sym (little-bytes_4 (part i 4 bs) size))

-- ---- its kind

-- what an argument of this sort is below; an unused one, 0, is below 1
unfoldable pub bound : ℕ → ℕ → ℕ → Sort → ℕ
bound s t d string = s
bound s t d number = t
bound s t d machine = d
bound s t d unused = 1

names-bound : (s t d : ℕ) (σ : Sort) (x : ℕ) → names s t d σ x ≡ ltb x (bound s t d σ)
unfolding names bound
names-bound s t d string x = refl
names-bound s t d number x = refl
names-bound s t d machine x = refl
names-bound s t d unused x = zero_test x
  where
    zero_test : (n : ℕ) → eqb n 0 ≡ ltb n 1
    zero_test zero = refl
    zero_test (suc n) = ne_eqb (suc n) 0 (λ e. absurd (omega arith)) ∙ sym (le-ltb (suc n) 1 (omega arith))

-- a record that is a constraint where its arguments name something
only_if : (named : Bool) (q : Record) → decoded_of (then_some named q) ≡ given named (constraint_of q)
unfolding decoded_of given
only_if true q = refl
only_if false q = refl

-- what is made of a record of kind n, whose arguments were held against their bounds
pub of_kind : (s t d n : ℕ) (r : List ℕ) (κ : Kind) (named : Bool) (o : std.Option Record) (q : Record) → kind_of n ≡ some κ → get_or r 0 0 ≡ n
    → named ≡ (ltb (get_or r 1 0) (bound s t d κ.first) && ltb (get_or r 2 0) (bound s t d κ.second) && ltb (get_or r 3 0) (bound s t d κ.third))
    → o ≡ then_some named q → constraint_of q ≡ κ.make (get_or r 1 0) (get_or r 2 0) (get_or r 3 0) → decoded_of o ≡ decode s t d r
unfolding decode bind
of_kind s t d n r κ named o q e k b made is =
    let f = names-bound s t d κ.first (get_or r 1 0) in
    let g = names-bound s t d κ.second (get_or r 2 0) in
    let h = names-bound s t d κ.third (get_or r 3 0) in
    ap decoded_of made ∙ only_if named q ∙ rw (is, k, e, f, g, h, b) refl

-- "a kind outside 1 to 7"
outside : (k : ℕ) → k ≢ 1 → k ≢ 2 → k ≢ 3 → k ≢ 4 → k ≢ 5 → k ≢ 6 → k ≢ 7 → kind_of k ≡ none
unfolding kind_of kinds
outside zero n₁ n₂ n₃ n₄ n₅ n₆ n₇ = refl
outside (suc zero) n₁ n₂ n₃ n₄ n₅ n₆ n₇ = absurd (n₁ refl)
outside (suc (suc zero)) n₁ n₂ n₃ n₄ n₅ n₆ n₇ = absurd (n₂ refl)
outside (suc (suc (suc zero))) n₁ n₂ n₃ n₄ n₅ n₆ n₇ = absurd (n₃ refl)
outside (suc (suc (suc (suc zero)))) n₁ n₂ n₃ n₄ n₅ n₆ n₇ = absurd (n₄ refl)
outside (suc (suc (suc (suc (suc zero))))) n₁ n₂ n₃ n₄ n₅ n₆ n₇ = absurd (n₅ refl)
outside (suc (suc (suc (suc (suc (suc zero)))))) n₁ n₂ n₃ n₄ n₅ n₆ n₇ = absurd (n₆ refl)
outside (suc (suc (suc (suc (suc (suc (suc zero))))))) n₁ n₂ n₃ n₄ n₅ n₆ n₇ = absurd (n₇ refl)
outside (suc (suc (suc (suc (suc (suc (suc (suc k)))))))) n₁ n₂ n₃ n₄ n₅ n₆ n₇ = refl

pub no_kind : (s t d : ℕ) (r : List ℕ) → (let k = get_or r 0 0 in k ≢ 1 → k ≢ 2 → k ≢ 3 → k ≢ 4 → k ≢ 5 → k ≢ 6 → k ≢ 7 → none ≡ decode s t d r)
unfolding decode bind
no_kind s t d r n₁ n₂ n₃ n₄ n₅ n₆ n₇ = rw (outside (get_or r 0 0) n₁ n₂ n₃ n₄ n₅ n₆ n₇) refl

-- ---- "naming one string twice"

one-test : (b : Bool) → cond (b || false) true false ≡ b
one-test true = refl
one-test false = refl

pub two_repeat : (x y : ℕ) → repeats (str x ∷ str y ∷ []) ≡ eqb x y
unfolding repeats any same_variable
two_repeat x y = one-test (eqb x y)

pub two-and-number_repeat : (x y n : ℕ) → repeats (str x ∷ str y ∷ num n ∷ []) ≡ eqb x y
unfolding repeats any same_variable
two-and-number_repeat x y n = one-test (eqb x y)

three : (a b c : Bool) → cond (a || (b || false)) true (cond (c || false) true false) ≡ ((a || b) || c)
three true b c = refl
three false true c = refl
three false false true = refl
three false false false = refl

pub three_repeat : (x y z : ℕ) → repeats (str x ∷ str y ∷ str z ∷ []) ≡ ((eqb x y || eqb x z) || eqb y z)
unfolding repeats any same_variable
three_repeat x y z = three (eqb x y) (eqb x z) (eqb y z)

three-and-number_repeat : (x y z n : ℕ) → repeats (str x ∷ str y ∷ str z ∷ num n ∷ []) ≡ ((eqb x y || eqb x z) || eqb y z)
unfolding repeats any same_variable
three-and-number_repeat x y z n = three (eqb x y) (eqb x z) (eqb y z)

-- the strings xs, and a number behind them
module _ (vs : List Variable) where
  pub repeat-at-two : (xs : List ℕ) (o : std.Option ℕ) → vs ≡ map str xs ++ map num (option_to_list o) → 2 ≤ length xs → length xs < 3 → eqb (get_or xs 0 0) (get_or xs 1 0) ≡ repeats vs
  repeat-at-two [] o e h l = absurd (omega arith)
  repeat-at-two (x ∷ []) o e h l = absurd (omega arith)
  repeat-at-two (x ∷ y ∷ []) None e h l = sym (ap repeats e ∙ two_repeat x y)
  repeat-at-two (x ∷ y ∷ []) (Some n) e h l = sym (ap repeats e ∙ two-and-number_repeat x y n)
  repeat-at-two (x ∷ y ∷ z ∷ xs) o e h l = absurd (omega arith)

  pub repeat-at-three : (xs : List ℕ) (o : std.Option ℕ) → vs ≡ map str xs ++ map num (option_to_list o) → 3 ≤ length xs → length xs < 4
      → ((eqb (get_or xs 0 0) (get_or xs 1 0) || eqb (get_or xs 0 0) (get_or xs 2 0)) || eqb (get_or xs 1 0) (get_or xs 2 0)) ≡ repeats vs
  repeat-at-three [] o e h l = absurd (omega arith)
  repeat-at-three (x ∷ []) o e h l = absurd (omega arith)
  repeat-at-three (x ∷ y ∷ []) o e h l = absurd (omega arith)
  repeat-at-three (x ∷ y ∷ z ∷ []) None e h l = sym (ap repeats e ∙ three_repeat x y z)
  repeat-at-three (x ∷ y ∷ z ∷ []) (Some n) e h l = sym (ap repeats e ∙ three-and-number_repeat x y z n)
  repeat-at-three (x ∷ y ∷ z ∷ w ∷ xs) o e h l = absurd (omega arith)

  pub no-repeat : (xs : List ℕ) (o : std.Option ℕ) → vs ≡ map str xs ++ map num (option_to_list o) → length xs < 2 → false ≡ repeats vs
  unfolding repeats any same_variable
  no-repeat [] None e l = sym (ap repeats e)
  no-repeat [] (Some n) e l = sym (ap repeats e)
  no-repeat (x ∷ []) None e l = sym (ap repeats e)
  no-repeat (x ∷ []) (Some n) e l = sym (ap repeats e)
  no-repeat (x ∷ y ∷ xs) o e l = absurd (omega arith)
