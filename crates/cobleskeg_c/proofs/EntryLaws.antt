-- What a function of the C interface claims of an answer by the numbers that stand for it. Assumes nothing.
use mathlib.Core.Path.{◌≡◌, refl, sym, subst}
use mathlib.Core.Bool.{Bool, true, false}
use mathlib.Core.List.{List}
use Prim.Native.Nat.{ℕ, ◌<◌}
use native.Mathlib.Omega.{arith}
use lib.Dec.{eqb}
use borrow.Author.Tests.{ne_eqb}
use mir.Val.{bool_byte}
use Rattle.std.specs.Prelude.{Result, Ok, Err}
use Rattle.search.specs.declared.Outcome.{Outcome}
use Rattle.search.specs.declared.Outcome.TheVariants.{Found, None, Spent}
use Rattle.search.specs.Outcomes.{outcome_of}
use Rattle.cobleskeg.specs.Claims.{SearchHolds}
use Rattle.cobleskeg_c.specs.Numbers.{bit_of, outcome_number, outcome_nodes, search_answer}

-- the cast makes 1 of true
pub byte_bit : (b : Bool) → bool_byte b ≡ bit_of b
unfolding bit_of
byte_bit true = refl
byte_bit false = refl

-- ---- Search

-- the numbers of an outcome stand for it
stands : (o : Outcome) → search_answer 0 (outcome_number (outcome_of o)) (outcome_nodes (outcome_of o)) ≡ Ok o
unfolding search_answer outcome_of outcome_number outcome_nodes
stands (Found n) = refl
stands (None n) = refl
stands (Spent n) = refl

module _ {file : List ℕ} {budget : ℕ} {R A U : List ℕ} where
  -- a claim on an answer is one on any that is the same outcome, or is refused as well
  carried : {E F : Type 0} (r : Result Outcome E) (s : Result Outcome F) → ((o : Outcome) → s ≡ Ok o → r ≡ Ok o) → ((o : Outcome) → r ≡ Ok o → s ≡ Ok o)
      → SearchHolds file budget R A r U → SearchHolds file budget R A s U
  carried r s back to h = record {
    first = λ a i n q. h.first a i n (back (Found n) q);
    empty = λ a i n q. h.empty a i n (back (None n) q);
    near = λ a i x y before after S t ns f l. let c = h.near a i x y before after S t ns f l in (to _ c.0, c.1);
    whole = λ a i x y l α f. let c = h.whole a i x y l α f in (c.0, to _ c.1);
    nothing = λ a i x y l f. to _ (h.nothing a i x y l f);
  }

  pub refused-holds : {E : Type 0} (e : E) (n : ℕ) → 0 < n → SearchHolds file budget R A (Err e) U → (outcome nodes : ℕ) → SearchHolds file budget R A (search_answer n outcome nodes) U
  unfolding search_answer
  refused-holds e n some h outcome nodes =
      let z : eqb n 0 ≡ false = ne_eqb n 0 (λ q. omega arith) in
      rw z (carried (Err e) (Err n) (λ o q. cc) (λ o q. cc) h)

  pub ended-holds : {E : Type 0} (o : Outcome) → SearchHolds {E = E} file budget R A (Ok o) U → (outcome nodes : ℕ)
      → outcome ≡ outcome_number (outcome_of o) → nodes ≡ outcome_nodes (outcome_of o) → SearchHolds file budget R A (search_answer 0 outcome nodes) U
  ended-holds {E = E} o h outcome nodes e f =
      rw (e, f, stands o) (carried {E = E} (Ok o) (Ok o) (λ p q. cc) (λ p q. cc) h)
