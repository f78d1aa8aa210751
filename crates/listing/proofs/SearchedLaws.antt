-- What the program prints by what Search answered. Assumes nothing.
use mathlib.Core.Path.{◌≡◌, refl, sym, ap, ap₂, ◌∙◌}
use mathlib.Core.Bool.{Bool, true, false, cond}
use mathlib.Core.List.{List, [], ◌∷◌, ◌++◌}
use mathlib.Core.Option.{Option, none, some, Option-elim}
use Prim.Native.Nat.{ℕ, ◌*◌, ◌≤◌, ◌<◌}
use native.Mathlib.Omega.{arith}
use lib.Dec.{leb}
use lib.ListN.{length, replicate, length-append, length-replicate}
use borrow.Author.Tests.{leb-true}
use Rattle.model.specs.Constraints.{Problem, Choice, width}
use Rattle.model.specs.Solutions.{Fits, table_of}
use Rattle.model.specs.Tree as tree
use Rattle.model.specs.Tree.{Search, Node, searching, first_solved, nodes, hit, miss}
use Rattle.model.specs.Replies.{answered, and_then}
use Rattle.model.specs.Layout.{layout}
use Rattle.model.specs.Reading.{Accepted, problem_of, reading}
use Rattle.model.specs.Operations.{Searched, search}
use Rattle.laws.proofs.ReplyLaws.{refused≢answered, answered_inj, and_then-answered}
use Rattle.laws.proofs.LayoutLaws.{layout-parts}
use Rattle.laws.proofs.BudgetLaws.{none≢found, spent≢found}
use Rattle.laws.proofs.SolutionLaws.{table_of-length}
use Rattle.format.proofs.AcceptLaws.{problem_of-holds}
use Rattle.std.specs.Prelude.{Result, Ok, Err}
use Rattle.refusals.specs.declared.Refusal.{Refusal}
use Rattle.search.specs.declared.Outcome.{Outcome}
use Rattle.search.specs.declared.Outcome.TheVariants.{Found, None, Spent}
use Rattle.search.specs.Outcomes.{outcome_of}
use Rattle.cobleskeg.specs.Answers.{search_reply}
use Rattle.cobleskeg.specs.Claims.{SearchHolds}
use Rattle.cobleskeg.proofs.SearchEntryLaws.{search-fitting}
use Rattle.model.specs.Listing.{found_bytes, none_bytes, spent_bytes, line, solution_lines, outcome_lines, reply_lines, search_lines}
use Rattle.listing.specs.declared.Page.{Page}
use Rattle.listing.specs.Writing.{Capacity, FullCapacity}
use Rattle.listing.specs.TableLines.{table_lines, Lengths, Lent}
use Rattle.listing.proofs.NumeralLaws.{decimal-length}
use Rattle.listing.proofs.LengthLaws.{ending-most, choice-most}
use Rattle.listing.proofs.FoundLaws.{own-lengths, solution-lines, table-lines}

-- "There are s strings (0 to 16) and t numbers (0 to 16)"
pub reading_range : (file : List ℕ) (a : Accepted) → reading file ≡ answered a → (a.problem.strings ≤ 16) × (a.problem.numbers ≤ 16)
unfolding reading
reading_range file a e =
    let t = and_then-answered (layout file) problem_of a e in
    let bounds = (layout-parts file t.0 t.1).bounds in
    let holds = problem_of-holds t.0 a t.2 in
    (omega (arith, holds.strings, bounds.strings-most), omega (arith, holds.numbers, bounds.numbers-most))

-- the count of a solved node that is found lies within the budget
module _ (budget : ℕ) (A : List ℕ) where
  hit-within : (N : Node) (n : ℕ) → (hit budget A N).outcome ≡ tree.found n → n ≤ budget
  unfolding hit
  hit-within N n e = go (leb N.number budget) refl e
    where
      go : (b : Bool) → leb N.number budget ≡ b
          → (cond {A = Search} b (record { outcome = tree.found N.number; table = N.table }) (record { outcome = tree.spent budget; table = A })).outcome ≡ tree.found n → n ≤ budget
      go true q f = let same : N.number ≡ n = cc in let l = leb-true N.number budget q in omega arith
      go false q f = absurd (spent≢found f)

  miss-within : (count n : ℕ) → (miss budget A count).outcome ≡ tree.found n → n ≤ budget
  unfolding miss
  miss-within count n e = go (leb count budget) e
    where
      go : (b : Bool) → cond b (tree.none count) (tree.spent budget) ≡ tree.found n → n ≤ budget
      go true f = absurd (none≢found f)
      go false f = absurd (spent≢found f)

  found_within : (P : Problem) (F : List ℕ) (n : ℕ) → (searching P F budget A).outcome ≡ tree.found n → n ≤ budget
  unfolding searching Option-elim
  found_within P F n e = go (first_solved P (nodes P F)) e
    where
      go : (o : Option Node) → (Option-elim o (miss budget A (length (nodes P F))) (hit budget A)).outcome ≡ tree.found n → n ≤ budget
      go none f = miss-within (length (nodes P F)) n f
      go (some N) f = hit-within N n f

-- the first line fits
pub ending_capacity : (w : List ℕ) (n : ℕ) {p : Page} → FullCapacity p → length w ≤ 7 → n < 4294967296 → Capacity p (line w (n ∷ []))
ending_capacity w n full h k = record { fits = let f = full.fits in let m = ending-most w 9 n (decimal-length 9 n (omega arith)) in omega arith }

-- the search that the program makes
abbrev searched : Accepted → Search
searched a = searching a.problem a.table 65536 (replicate (width a.problem) 0)

lines_searched : (file : List ℕ) (a : Accepted) → reading file ≡ answered a
    → reply_lines (search_lines (reading file)) ≡ outcome_lines a.problem (searched a).table (searched a).outcome
unfolding reply_lines search_lines and_then
lines_searched file a reads =
    let w = width a.problem in
    let zeros : length (replicate {A = ℕ} (3 * w) 0) ≡ 3 * w = length-replicate (3 * w) 0 in
    rw (reads, search-fitting a 65536 (replicate (3 * w) 0) (replicate w 0) (omega arith) (length-replicate w 0))

-- a table that is a solution's own: its lines have a place behind a line of at most 12 bytes, and may be written
module _ (P : Problem) (F : List ℕ) (α : Choice) (fits : Fits P F α) (s : ℕ) (same : s ≡ P.strings) (U : List ℕ) (own : U ≡ table_of P α) where
  own_lines : solution_lines P U ≡ table_lines s U
  own_lines = ap (solution_lines P) own ∙ solution-lines P F α fits ∙ sym (table-lines P F α fits) ∙ sym (ap₂ table_lines same own)

  own_capacity : P.strings ≤ 16 → P.numbers ≤ 16 → (first : List ℕ) → length first ≤ 12 → {p : Page} → FullCapacity p → Capacity p (first ++ table_lines s U)
  own_capacity h k first l full = record {
    fits =
        let f = full.fits in
        let rest = choice-most P F α fits h k in
        let e = ap length (ap₂ table_lines same own ∙ table-lines P F α fits) in
        omega (arith, length-append first (table_lines s U));
  }

  own-ready : (64 * s ≤ length U) × Lengths U s
  own-ready = let whole : length (table_of P α) ≡ width P = table_of-length P α in rw (same, own) (omega arith, own-lengths P F α fits)

module _ (file : List ℕ) (s : ℕ) (R A : List ℕ) (lent : Lent file s R A) (R' U : List ℕ) (r : Result Outcome Refusal) (e : search_reply R' U r ≡ search (reading file) 65536 R A) where
  replied : (z : Searched) × (search_reply R' U r ≡ answered z) × (z.outcome ≡ (searched lent.file-holds).outcome) × (z.table ≡ (searched lent.file-holds).table)
  replied =
      let a = lent.file-holds in
      let sized : length A ≡ width a.problem = ap length lent.table-words ∙ length-replicate (width a.problem) 0 in (
        _,
        e ∙ ap (λ q. search q 65536 R A) lent.reads ∙ search-fitting a 65536 R A lent.room-words sized,
        ap (λ (B : List ℕ). (searching a.problem a.table 65536 B).outcome) lent.table-words,
        ap (λ (B : List ℕ). (searching a.problem a.table 65536 B).table) lent.table-words,
      )

  pub never-refused : (n : Refusal) → r ≡ Err n → ⊥
  never-refused n q = refused≢answered (ap (search_reply R' U) (sym q) ∙ replied.1)

  -- the lines of an outcome, where the answer table is left as U
  ended : (o : tree.Outcome) → search_reply R' U r ≡ answered (record { outcome = o; room = R'; table = U })
      → (reply_lines (search_lines (reading file)) ≡ outcome_lines lent.file-holds.problem U o) × ((searched lent.file-holds).outcome ≡ o)
  ended o q =
      let same = answered_inj (sym q ∙ replied.1) in
      let t : U ≡ (searched lent.file-holds).table = ap (λ (z : Searched). z.table) same ∙ replied.3 in
      let w : o ≡ (searched lent.file-holds).outcome = ap (λ (z : Searched). z.outcome) same ∙ replied.2 in
      (lines_searched file lent.file-holds lent.reads ∙ sym (ap₂ (outcome_lines lent.file-holds.problem) t w), sym w)

  pub none_lines : (n : ℕ) → r ≡ Ok (None n) → reply_lines (search_lines (reading file)) ≡ line none_bytes (n ∷ [])
  unfolding outcome_of outcome_lines
  none_lines n q = (ended (tree.none n) (ap (search_reply R' U) q)).0

  pub spent_lines : (n : ℕ) → r ≡ Ok (Spent n) → reply_lines (search_lines (reading file)) ≡ line spent_bytes (n ∷ [])
  unfolding outcome_of outcome_lines
  spent_lines n q = (ended (tree.spent n) (ap (search_reply R' U) q)).0

  module _ (holds : SearchHolds file 65536 R A r U) (n : ℕ) (q : r ≡ Ok (Found n)) where
    found-ended : (reply_lines (search_lines (reading file)) ≡ line found_bytes (n ∷ []) ++ solution_lines lent.file-holds.problem U)
        × ((searched lent.file-holds).outcome ≡ tree.found n)
    unfolding outcome_of outcome_lines
    found-ended = ended (tree.found n) (ap (search_reply R' U) q)

    pub found_lines : reply_lines (search_lines (reading file)) ≡ line found_bytes (n ∷ []) ++ table_lines s U
    found_lines =
        let a = lent.file-holds in
        let t = holds.first a lent.reads n q in
        found-ended.0 ∙ ap (λ (l : List ℕ). line found_bytes (n ∷ []) ++ l) (own_lines a.problem a.table t.0 t.1.solution.fits s lent.strings U t.2)

    pub found_capacity : {p : Page} → FullCapacity p → Capacity p (line found_bytes (n ∷ []) ++ table_lines s U)
    found_capacity full =
        let a = lent.file-holds in
        let t = holds.first a lent.reads n q in
        let range = reading_range file a lent.reads in
        let count = found_within 65536 (replicate (width a.problem) 0) a.problem a.table n found-ended.1 in
        let first = ending-most found_bytes 4 n (decimal-length 4 n (omega arith)) in
        own_capacity a.problem a.table t.0 t.1.solution.fits s lent.strings U t.2 range.0 range.1 (line found_bytes (n ∷ [])) (omega arith) full

    pub found-ready : (64 * s ≤ length U) × Lengths U s
    found-ready =
        let a = lent.file-holds in
        let t = holds.first a lent.reads n q in
        own-ready a.problem a.table t.0 t.1.solution.fits s lent.strings U t.2
