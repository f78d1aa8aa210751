-- Demand 3, for every file: the one theorem on whole lists of calls and on every budget (crates/model/specs/Claim.antt says what is claimed). Assumes nothing.
use mathlib.Core.Path.{◌≡◌, refl, sym, ap, subst, ◌∙◌}
use mathlib.Core.Bool.{Bool, true, false}
use mathlib.Core.List.{List}
use Prim.Native.Nat.{ℕ}
use Rattle.model.specs.Words.{bit, Words}
use Rattle.model.specs.Constraints.{Problem}
use Rattle.model.specs.Rounds.{settled}
use Rattle.model.specs.Tree.{Search, searching}
use Rattle.model.specs.Replies.{Reply, refused, answered, and_then}
use Rattle.model.specs.Layout.{Bytes}
use Rattle.model.specs.Reading.{Accepted, Reading, reading}
use Rattle.model.specs.Operations.{on_table, step, Settlement, settle, Searched, search}
use Rattle.model.specs.Queue.{settle_by_index}
use Rattle.model.specs.Claim.{Call, ListClaim, SearchClaim, Demand}
use Rattle.laws.specs.Lent.{lendable}
use Rattle.laws.proofs.SolutionLaws.{table_of-word, own_below, own-stable}
use Rattle.laws.proofs.BudgetLaws.{search-first, search-empty, search-near, search-whole, search-nothing}
use Rattle.laws.proofs.CallLaws.{lendable-length, settle-lendable, settle_other, step_other, settle-by-index-other, calls-above, calls-settle, calls-other, calls-refused}
use Rattle.laws.proofs.ReadingLaws.{Sound, reading-sound}
use Rattle.laws.proofs.ReplyLaws.{refused≢answered, require-answered, answered_inj}

-- a table that Settle takes, and one that it refuses
taken : (a : Accepted) (T : List ℕ) (m : Settlement) → settle (answered a) T ≡ answered m → lendable a.problem T ≡ true
taken a T m e = go (lendable a.problem T) refl
  where
    go : (t : Bool) → lendable a.problem T ≡ t → t ≡ true
    go true q = refl
    go false q = absurd (refused≢answered (sym (settle_other a T q) ∙ e))

refused-table : (a : Accepted) (T : List ℕ) (n : ℕ) → settle (answered a) T ≡ refused n → lendable a.problem T ≡ false
refused-table a T n e = go (lendable a.problem T) refl
  where
    go : (t : Bool) → lendable a.problem T ≡ t → t ≡ false
    go true q = absurd (refused≢answered (sym e ∙ settle-lendable a T q))
    go false q = refl

list-claim : (a : Accepted) → Sound a → (T : List ℕ) → Words T → (m : Settlement) → settle (answered a) T ≡ answered m → (cs : List Call) → ListClaim a T m cs
list-claim a so T bd m e cs =
    let l = taken a T m e in
    let ln = lendable-length a.problem T l in
    let q : settled a.problem T ≡ m.table = ap (λ (z : Settlement). z.table) (answered_inj (sym (settle-lendable a T l) ∙ e)) in
    record {
      kept = λ α s i h b u. (calls-above a cs _ T (own-stable a.problem α T so.well_formed s) (own_below a.problem α T ln s.fits)).within i b
          (ap (λ (w : ℕ). bit w b) (table_of-word a.problem α i h) ∙ u);
      settles = λ n. calls-settle a cs T bd l n ∙ q;
    }

-- a search that answers: what it answers and leaves is what the search of the file's table gives
search-answered : (a : Accepted) (budget : ℕ) (room A : List ℕ) (z : Searched) → search (answered a) budget room A ≡ answered z
    → (z.outcome ≡ (searching a.problem a.table budget A).outcome) × (z.table ≡ (searching a.problem a.table budget A).table)
unfolding search and_then
search-answered a budget room A z e =
    let t = require-answered _ 12 _ z e in
    let u = require-answered _ 13 _ z t.1 in
    let q = sym (answered_inj u.1) in
    (ap (λ (y : Searched). y.outcome) q, ap (λ (y : Searched). y.table) q)

search-claim : (a : Accepted) → Sound a → (budget : ℕ) (room A : List ℕ) (z : Searched) → search (answered a) budget room A ≡ answered z → SearchClaim a budget z
search-claim a so budget room A z e =
    let P : Problem = a.problem in
    let F : List ℕ = a.table in
    let wf = so.well_formed in
    let bd = so.words in
    let ln = lendable-length P F so.own-table in
    let q = search-answered a budget room A z e in
    record {
      first = λ n h. let t = search-first P wf F bd ln budget A n (sym q.0 ∙ h) in (t.0, t.1, q.1 ∙ t.2);
      empty = λ n h. search-empty P wf F bd ln budget A n (sym q.0 ∙ h);
      near = λ before after S n h s l.
          let t = search-near P wf F bd ln budget A before after S n h s l in
          (q.0 ∙ ap (λ (y : Search). y.outcome) t, q.1 ∙ ap (λ (y : Search). y.table) t);
      whole = λ l α s. let t = search-whole P wf F bd ln budget A l α s in (t.0, q.0 ∙ t.1);
      nothing = λ l h. q.0 ∙ search-nothing P wf F bd ln budget A l h;
    }

-- a file that is refused: every operation on a lent table refuses with its number
pub settle-refused : (n : ℕ) (T : List ℕ) → settle (refused n) T ≡ refused n
unfolding settle on_table and_then
settle-refused n T = refl

pub step-refused : (n j : ℕ) (T : List ℕ) → step (refused n) j T ≡ refused n
unfolding step on_table and_then
step-refused n j T = refl

pub settle-by-index-refused : (n : ℕ) (I T : List ℕ) → settle_by_index (refused n) I T ≡ refused n
unfolding settle_by_index on_table and_then
settle-by-index-refused n I T = refl

refused-alike : {A B : Type 0} {n m : ℕ} → ◌≡◌ {A = Reply A} (refused n) (refused m) → ◌≡◌ {A = Reply B} (refused n) (refused m)
refused-alike {A} {B} {n} {m} e = let q : n ≡ m = cc in ap (λ (k : ℕ). refused k) q

demand : (r : Reading) → ((a : Accepted) → r ≡ answered a → Sound a) → Demand r
demand (refused n) so = record {
  every_call = λ T m e j. step-refused n j T ∙ refused-alike (sym (settle-refused n T) ∙ e);
  every_index = λ T m e I. settle-by-index-refused n I T ∙ refused-alike (sym (settle-refused n T) ∙ e);
  refusing = λ T m e cs. calls-refused n cs T;
  calling = λ a e. absurd (refused≢answered e);
  searching = λ a e. absurd (refused≢answered e);
}
demand (answered b) so = record {
  every_call = λ T n e j. let l = refused-table b T n e in step_other b T j l ∙ refused-alike (sym (settle_other b T l) ∙ e);
  every_index = λ T n e I. let l = refused-table b T n e in settle-by-index-other b I T l ∙ refused-alike (sym (settle_other b T l) ∙ e);
  refusing = λ T n e cs. calls-other b cs T (refused-table b T n e);
  calling = λ a e T bd m s cs.
      let q : b ≡ a = answered_inj e in
      list-claim a (so a e) T bd m (subst (λ (c : Accepted). settle (answered c) T ≡ answered m) q s) cs;
  searching = λ a e budget room A z s.
      let q : b ≡ a = answered_inj e in
      search-claim a (so a e) budget room A z (subst (λ (c : Accepted). search (answered c) budget room A ≡ answered z) q s);
}

-- for every file: no assumption beyond that its bytes are bytes (and, in the claim, that a table's words are words)
pub demand_3 : (file : List ℕ) → Bytes file → Demand (reading file)
demand_3 file b = demand (reading file) (reading-sound file b)
