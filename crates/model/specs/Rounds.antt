-- Rounds until one strikes nothing (document 01, "Operations", Settle). Assumes nothing.
use Rattle.std.specs.Prelude.{Bool, List, [], ◌∷◌, ◌++◌, map, ℕ, zero, suc, leb, length}
use Rattle.model.specs.Lists.{all, upto}
use Rattle.model.specs.Words.{size}
use Rattle.model.specs.Domains.{Variable, str, num, strings_of, values_of}
use Rattle.model.specs.Constraints.{Problem, Constraint, always}
use Rattle.model.specs.Support.{narrowed, struck}

-- "strings first, then numbers"
unfoldable pub variables_of : Problem → List Variable
variables_of P = map str (upto P.strings) ++ map num (upto P.numbers)

-- how many values a variable has
unfoldable pub value_count : Problem → List ℕ → Variable → ℕ
value_count P T (str x) = length (strings_of T x)
value_count P T (num n) = length (values_of P.strings T n)

-- "every variable still has a value"
unfoldable pub every_value : Problem → List ℕ → Bool
every_value P T = all (λ v. leb 1 (value_count P T v)) (variables_of P)

-- "a round trims every string in order, then takes every constraint in order"
unfoldable pub steps : Problem → List Constraint
steps P = map always (upto P.strings) ++ P.constraints

-- these steps, one after the other; "It goes on after a variable has lost its last value"
unfoldable pub run : Problem → List Constraint → List ℕ → List ℕ
run P [] T = T
run P (c ∷ cs) T = run P cs (narrowed P c T)

-- one round
unfoldable pub round : Problem → List ℕ → List ℕ
round P T = run P (steps P) T

-- "the rounds, the last included", and the table they leave
pub record Settled : Type 0 where
  pub rounds : ℕ
  pub table : List ℕ

-- after a round that struck n bits and left U, where the rounds from U on give r
unfoldable pub after : ℕ → List ℕ → Settled → Settled
after zero U r = record { rounds = 1; table = U }
after (suc n) U r = record { rounds = suc r.rounds; table = r.table }

-- at most f rounds
unfoldable pub settling_in : ℕ → Problem → List ℕ → Settled
settling_in zero P T = record { rounds = 0; table = T }
settling_in (suc f) P T =
    let U = round P T in
    let r = settling_in f P U in
    after (struck T U) U r

-- "rounds follow one another until one strikes nothing": each round but the last strikes a bit, so there are at most one more than bits.
-- The equation a reader expects is `settling-step` (crates/laws, RoundLaws): settling P T ≡ after (struck T U) U (settling P U) for U = round P T.
unfoldable pub settling : Problem → List ℕ → Settled
settling P T = settling_in (suc (size T)) P T

-- the table that the rounds leave
abbrev pub settled : Problem → List ℕ → List ℕ
settled P T = (settling P T).table
