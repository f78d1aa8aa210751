-- One narrowing step, by the rule of support (document 01, "Support"). Assumes nothing.
use Rattle.std.specs.Prelude.{Bool, not, cond, ℕ, ◌+◌, eqb, length}
use mathlib.Core.List.{List, [], ◌∷◌, map, flat_map}
use Rattle.model.specs.Lists.{select, any, map_from}
use Rattle.model.specs.Words.{bit, bits, union}
use Rattle.model.specs.Domains.{Variable, str, num, same_variable, strings_of, values_of, owner}
use Rattle.model.specs.Constraints.{Problem, Choice, Constraint, meets, variables}
use Rattle.model.specs.Solutions.{used}

-- a choice that is given string x, or number n, anew
abbrev pub with_text : ℕ → Choice → List ℕ → Choice
with_text x γ w = record { text = λ y. cond (eqb x y) w (γ.text y); value = γ.value }

abbrev pub with_value : ℕ → Choice → ℕ → Choice
with_value n γ v = record { text = γ.text; value = λ m. cond (eqb n m) v (γ.value m) }

-- the choice of no variable
abbrev pub blank : Choice
blank = record { text = λ x. []; value = λ n. 0 }

-- "every choice of values for its variables, taken from their current domains", in a table of s strings
unfoldable pub choices : ℕ → List ℕ → List Variable → List Choice
choices s T [] = blank ∷ []
choices s T (str x ∷ vs) = flat_map (λ γ. map (with_text x γ) (strings_of T x)) (choices s T vs)
choices s T (num n ∷ vs) = flat_map (λ γ. map (with_value n γ) (values_of s T n)) (choices s T vs)

-- "that meets it"
unfoldable pub supports : Problem → Constraint → List ℕ → List Choice
supports P c T = select (meets P c) (choices P.strings T (variables c))

-- word i belongs to a variable of the constraint
unfoldable pub touches : Problem → Constraint → ℕ → Bool
touches P c i = any (same_variable (owner P.strings i)) (variables c)

-- "A length of X stays if a choice has X that long. A symbol at place i stays if a choice has X at least i long with that symbol there. A number stays if
-- a choice uses it. All other bits of those variables are struck; other variables are untouched."
unfoldable pub narrowed : Problem → Constraint → List ℕ → List ℕ
narrowed P c T =
    let good = supports P c T in
    map_from 0 (λ i w. cond (touches P c i) (union (map (λ γ. used P.strings γ i) good)) w) T

-- "the number of bits struck": the bits of T that U lacks
unfoldable pub struck : List ℕ → List ℕ → ℕ
struck [] U = 0
struck (w ∷ T) [] = length (bits w) + struck T []
struck (w ∷ T) (v ∷ U) = length (select (λ b. not (bit v b)) (bits w)) + struck T U
