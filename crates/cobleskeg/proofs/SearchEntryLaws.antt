-- What Search answers and leaves, by what looking over the file and the lent buffers gave, and that its answer keeps demand 3. Assumes nothing.
use mathlib.Core.Path.{◌≡◌, refl, sym, ap, ◌∙◌}
use mathlib.Core.List.{List, ◌++◌}
use Prim.Native.Nat.{ℕ, ◌*◌, ◌≤◌, ◌<◌}
use lib.ListN.{length, replicate, drop}
use Rattle.std.specs.Prelude.{Result, Ok, Err}
use borrow.Author.Tests.{le-leb, lt-leb, eq-eqb, ne_eqb}
use Rattle.model.specs.Constraints.{width}
use Rattle.model.specs.Tree.{Outcome, found, none, Search, searching}
use Rattle.model.specs.Replies.{refused, answered, require, and_then, leaves}
use Rattle.model.specs.Layout.{Bytes}
use Rattle.model.specs.Reading.{Accepted, reading}
use Rattle.model.specs.Operations.{Searched, search}
use Rattle.model.specs.Claim.{SearchClaim}
use Rattle.laws.proofs.ReplyLaws.{refused≢answered, answered_inj}
use Rattle.laws.proofs.BudgetLaws.{none≢found, spent≢found, spent≢none}
use Rattle.laws.proofs.Demand.{demand_3}
use Rattle.refusals.specs.declared.Refusal.{Refusal}
use Rattle.format.specs.declared.problem.Problem.{Problem}
use Rattle.format.specs.Accepting.{content_of}
use Rattle.format.specs.Problems.{the_problem, the_table}
use Rattle.search.specs.declared.Outcome as ended
use Rattle.search.specs.declared.Outcome.TheVariants.{Found, None, Spent}
use Rattle.search.specs.Outcomes.{outcome_of}
use Rattle.cobleskeg.specs.Answers.{search_reply}
use Rattle.cobleskeg.specs.Claims.{SearchHolds}
use Rattle.cobleskeg.proofs.AnswerLaws.{Accepts, shows}

-- ---- demand 3, from the equation

-- an answer that the model calls found
is_found : (R U : List ℕ) (r : Result ended.Outcome Refusal) (z : Searched) (n : ℕ) → search_reply R U r ≡ answered z → z.outcome ≡ found n → (r ≡ Ok (Found n)) × (U ≡ z.table)
unfolding outcome_of
is_found R U (Err m) z n e o = absurd (refused≢answered e)
is_found R U (Ok (Found m)) z n e o =
    let q = answered_inj e in
    let f : found m ≡ found n = ap (λ (y : Searched). y.outcome) q ∙ o in
    let k : m ≡ n = cc in
    (ap (λ (i : ℕ). Ok (Found i)) k, ap (λ (y : Searched). y.table) q)
is_found R U (Ok (None m)) z n e o = absurd (none≢found (ap (λ (y : Searched). y.outcome) (answered_inj e) ∙ o))
is_found R U (Ok (Spent m)) z n e o = absurd (spent≢found (ap (λ (y : Searched). y.outcome) (answered_inj e) ∙ o))

-- an answer that the model calls none
is_none : (R U : List ℕ) (r : Result ended.Outcome Refusal) (z : Searched) (n : ℕ) → search_reply R U r ≡ answered z → z.outcome ≡ none n → r ≡ Ok (None n)
unfolding outcome_of
is_none R U (Err m) z n e o = absurd (refused≢answered e)
is_none R U (Ok (Found m)) z n e o = absurd (none≢found (sym o ∙ ap (λ (y : Searched). y.outcome) (sym (answered_inj e))))
is_none R U (Ok (None m)) z n e o =
    let f : none m ≡ none n = ap (λ (y : Searched). y.outcome) (answered_inj e) ∙ o in
    let k : m ≡ n = cc in
    ap (λ (i : ℕ). Ok (None i)) k
is_none R U (Ok (Spent m)) z n e o = absurd (spent≢none (ap (λ (y : Searched). y.outcome) (answered_inj e) ∙ o))

-- a search with room enough and an answer table that fits is answered
pub search-fitting : (a : Accepted) (budget : ℕ) (R A : List ℕ) → 3 * width a.problem ≤ length R → length A ≡ width a.problem
    → search (answered a) budget R A ≡ answered (record {
      outcome = (searching a.problem a.table budget A).outcome;
      room = replicate (3 * width a.problem) 0 ++ drop (3 * width a.problem) R;
      table = (searching a.problem a.table budget A).table;
    })
unfolding search and_then require
search-fitting a budget R A h k = rw (le-leb (3 * width a.problem) (length R) h, eq-eqb (length A) (width a.problem) k)

module _ (file : List ℕ) (bytes : Bytes file) (budget : ℕ) (R A : List ℕ) where
  claim : (a : Accepted) → reading file ≡ answered a → (z : Searched) → search (reading file) budget R A ≡ answered z → SearchClaim a budget z
  claim a e z s = (demand_3 file bytes).searching a e budget R A z s

  -- the claim, where room and answer table fit
  fitting : (a : Accepted) → reading file ≡ answered a → 3 * width a.problem ≤ length R → length A ≡ width a.problem
      → (z : Searched) × (search (reading file) budget R A ≡ answered z) × SearchClaim a budget z
  fitting a i h k = let x = ap (λ r. search r budget R A) i ∙ search-fitting a budget R A h k in (_, x, claim a i _ x)

  pub search-holds : (R' U : List ℕ) (r : Result ended.Outcome Refusal) → search_reply R' U r ≡ search (reading file) budget R A → SearchHolds file budget R A r U
  unfolding outcome_of
  search-holds R' U r e = record {
    first = λ a i n f. (claim a i (record { outcome = found n; room = R'; table = U }) (sym e ∙ ap (search_reply R' U) f)).first n refl;
    empty = λ a i n f. (claim a i (record { outcome = none n; room = R'; table = U }) (sym e ∙ ap (search_reply R' U) f)).empty n refl;
    near = λ a i h k before after S t ns s l.
        let x = fitting a i h k in
        let c = x.2.near before after S t ns s l in
        let f = is_found R' U r _ _ (e ∙ x.1) c.0 in
        (f.0, f.1 ∙ c.1);
    whole = λ a i h k l α s.
        let x = fitting a i h k in
        let c = x.2.whole l α s in
        (c.0, (is_found R' U r _ _ (e ∙ x.1) c.1).0);
    nothing = λ a i h k l none. let x = fitting a i h k in is_none R' U r _ _ (e ∙ x.1) (x.2.nothing l none);
  }

-- ---- what is answered

pub search-early : (file : List ℕ) (n : ℕ) → reading file ≡ refused n → (budget : ℕ) (R A : List ℕ) → search (reading file) budget R A ≡ refused n
unfolding search and_then
search-early file n e budget R A = ap (λ r. search r budget R A) e

module _ {file : List ℕ} {p : Problem} (a : Accepts file p) (budget : ℕ) (R A : List ℕ) where
  on-content : search (reading file) budget R A ≡ search (answered (content_of p.file.now p.parts)) budget R A
  on-content = ap (λ r. search r budget R A) a.reads

  pub search_twelve : length R < 3 * width (the_problem p) → search (reading file) budget R A ≡ refused 12
  unfolding search and_then require
  search_twelve h = on-content ∙ rw (lt-leb (3 * width (the_problem p)) (length R) h)

  module _ (room : 3 * width (the_problem p) ≤ length R) where
    pub search_thirteen : (length A ≡ width (the_problem p) → ⊥) → search (reading file) budget R A ≡ refused 13
    unfolding search and_then require
    search_thirteen h = on-content ∙ rw (le-leb (3 * width (the_problem p)) (length R) room, ne_eqb (length A) (width (the_problem p)) h)

    pub search-done : length A ≡ width (the_problem p) → (R' U : List ℕ) (o : Outcome) → record { outcome = o; table = U } ≡ searching (the_problem p) (the_table p) budget A
        → R' ≡ replicate (3 * width (the_problem p)) 0 ++ drop (3 * width (the_problem p)) R
        → answered (record { outcome = o; room = R'; table = U }) ≡ search (reading file) budget R A
    search-done fits R' U o s w =
        cc (on-content, search-fitting (content_of p.file.now p.parts) budget R A room fits, w, ap (λ (y : Search). y.outcome) s, ap (λ (y : Search). y.table) s)

    -- how the search ended, and the answer then, with both lent buffers afterwards, and demand 3
    abbrev Ended : List ℕ → List ℕ → ended.Outcome → Type 0
    Ended R' U o =
        (record { outcome = outcome_of o; table = U } ≡ searching (the_problem p) (the_table p) budget A)
        × (R' ≡ replicate (3 * width (the_problem p)) 0 ++ drop (3 * width (the_problem p)) R)

    abbrev SearchAnswers : List ℕ → List ℕ → Result ended.Outcome Refusal → Type 0
    SearchAnswers R' U r =
        (search_reply R' U r ≡ search (reading file) budget R A)
        × ((R' ≡ leaves (λ (a : Searched). a.room) (search (reading file) budget R A) R)
        × ((U ≡ leaves (λ (a : Searched). a.table) (search (reading file) budget R A) A)
        × SearchHolds file budget R A r U))

    pub found-done : Bytes file → length A ≡ width (the_problem p) → (R' U : List ℕ) (o : ended.Outcome) → Ended R' U o → (n : ℕ) → o ≡ Found n
        → SearchAnswers R' U (Ok (Found n))
    found-done bytes fits R' U o d n q =
        let e = search-done fits R' U (outcome_of (Found n)) (ap (λ x. record { outcome = outcome_of x; table = U }) (sym q) ∙ d.0) d.1 in (
          e,
          (
            shows (λ (a : Searched). a.room) (search (reading file) budget R A) _ R e,
            (
              shows (λ (a : Searched). a.table) (search (reading file) budget R A) _ A e,
              search-holds file bytes budget R A R' U (Ok (Found n)) e,
            ),
          ),
        )
