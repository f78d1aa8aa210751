-- Laws of the sink: an automaton with its sink written out accepts the same strings, so the problem has the same answers; and what refusal 5 leaves of an
-- automaton is proper. Assumes nothing.
use mathlib.Core.Path.{◌≡◌, refl, sym, ap, subst, ◌∙◌}
use mathlib.Core.Logic.{◌⊎◌, inl, inr, ⊎_elim}
use mathlib.Core.Bool.{Bool, true, false, ◌&&◌}
use mathlib.Core.List.Memᴰ
use mathlib.Core.List.{List, [], ◌∷◌, ◌++◌, map}
use mathlib.Core.Option.{Option, none, some, bind}
use Prim.Native.Nat.{ℕ, zero, suc, ◌+◌, ◌*◌, ◌<◌}
use native.Mathlib.Omega.{arith}
use lib.Dec.{leb}
use lib.ListN.{length, get_or, replicate, take, drop, length-map, get_or-eq_default}
use Rattle.model.specs.Lists.{all}
use Rattle.model.specs.Words.{bit, none_from}
use Rattle.model.specs.Constraints.{Automaton, Problem, Choice, Constraint, always, eq, neq, rev, cat, sub, len, regular, move, reached, holds, accepts, no_automaton, meets}
use Rattle.model.specs.Replies.{answered}
use Rattle.model.specs.Layout.{Bytes, little, part, Parts, layout}
use Rattle.model.specs.Reading.{pieces, target, known, automaton, automata_in, Accepted, problem_of, reading}
use Rattle.model.specs.Sink.{to_sink, with_sink, with_sinks, Proper, SameAnswers}
use Rattle.laws.specs.Inclusion.{In}
use Rattle.laws.proofs.ListLaws.{given-some, bind-some, and_true}
use Rattle.laws.proofs.WordLaws.{in_bits, bit_high, none_from-bits}
use Rattle.laws.proofs.ReplyLaws.{require-answered, obtain-answered, and_then-answered, answered_inj}
use Rattle.laws.proofs.ReadingLaws.{little_lt, drop-bytes, pieces-length, layout-bytes}
use Rattle.laws.proofs.AlikeLaws.{alike_same}

-- ---- the same strings are accepted

-- the second move is the first, or there was none and it leads to the sink n
abbrev Sunk : ℕ → Option ℕ → Option ℕ → Type 0
Sunk n m m' = (m' ≡ m) ⊎ ((m ≡ none) × (m' ≡ some n))

row_sunk : (n : ℕ) (ms : List (Option ℕ)) (a : ℕ) → Sunk n (get_or ms a none) (get_or (map (to_sink n) ms) a none)
unfolding to_sink
row_sunk n [] a = inl refl
row_sunk n (none ∷ ms) zero = inr (refl, refl)
row_sunk n (some p ∷ ms) zero = inl refl
row_sunk n (m ∷ ms) (suc a) = row_sunk n ms a

-- the row of the sink, where there was no row
loop_sunk : (n k a : ℕ) → Sunk n none (get_or (replicate k (some n)) a none)
loop_sunk n zero a = inl refl
loop_sunk n (suc k) zero = inr (refl, refl)
loop_sunk n (suc k) (suc a) = loop_sunk n k a

rows_sunk : (n k : ℕ) (rows : List (List (Option ℕ))) (q a : ℕ)
    → Sunk n (get_or (get_or rows q []) a none) (get_or (get_or (map (map (to_sink n)) rows ++ (replicate k (some n) ∷ [])) q []) a none)
rows_sunk n k [] zero a = loop_sunk n k a
rows_sunk n k [] (suc q) a = inl refl
rows_sunk n k (row ∷ rows) zero a = row_sunk n row a
rows_sunk n k (row ∷ rows) (suc q) a = rows_sunk n k rows q a

module _ (k : ℕ) (A : Automaton) where
  abbrev sink : ℕ
  sink = length A.moves

  move_sunk : (q a : ℕ) → Sunk sink (move A q a) (move (with_sink k A) q a)
  unfolding move with_sink
  move_sunk q a = rows_sunk sink k A.moves q a

  module _ (proper : Proper A) where
    -- no row of A has the number of the sink, and it is not accepting
    sink_rejects : (w : List ℕ) → holds A.accepting (reached A sink w) ≡ false
    unfolding reached bind holds move
    sink_rejects [] = go (bit A.accepting sink) refl
      where
        go : (t : Bool) → bit A.accepting sink ≡ t → t ≡ false
        go true e = let h = proper.accepting-state sink e in absurd (omega arith)
        go false e = refl
    sink_rejects (a ∷ w) = rw (get_or-eq_default A.moves [] {n = sink} (omega arith)) refl

    -- from any number q, a state or not: where A has no move and the other one goes to the sink, both reject
    reached_sunk : (w : List ℕ) (q : ℕ) → holds A.accepting (reached (with_sink k A) q w) ≡ holds A.accepting (reached A q w)
    unfolding reached bind holds
    reached_sunk [] q = refl
    reached_sunk (a ∷ w) q = ⊎_elim (λ e. rw e (go (move A q a) (reached_sunk w))) (λ e. rw (e.0, e.1) (reached_sunk w sink ∙ sink_rejects w)) (move_sunk q a)
      where
        go : (m : Option ℕ) → ((p : ℕ) → holds A.accepting (reached (with_sink k A) p w) ≡ holds A.accepting (reached A p w))
            → holds A.accepting (bind m (λ p. reached (with_sink k A) p w)) ≡ holds A.accepting (bind m (λ p. reached A p w))
        go none r = refl
        go (some p) r = r p

pub sink-accepts : (k : ℕ) (A : Automaton) → Proper A → (w : List ℕ) → accepts (with_sink k A) w ≡ accepts A w
unfolding accepts with_sink
sink-accepts k A proper w = reached_sunk k A proper w 0

-- ---- the same answers

-- automaton d of a list, or none, accepts the same strings
get_or-accepts : (k : ℕ) (As : List Automaton) → ((A : Automaton) → In A As → Proper A) → (d : ℕ) (w : List ℕ)
    → accepts (get_or As d no_automaton) w ≡ accepts (get_or (map (with_sink k) As) d no_automaton) w
get_or-accepts k [] proper d w = refl
get_or-accepts k (A ∷ As) proper zero w = sym (sink-accepts k A (proper A (Memᴰ.head refl)) w)
get_or-accepts k (A ∷ As) proper (suc d) w = get_or-accepts k As (λ B m. proper B (Memᴰ.tail m)) d w

module _ (P : Problem) (proper : (A : Automaton) → In A P.automata → Proper A) where
  meets_sinks : (c : Constraint) (γ : Choice) → meets P c γ ≡ meets (with_sinks P) c γ
  unfolding meets with_sinks
  meets_sinks (always x) γ = refl
  meets_sinks (eq x y) γ = refl
  meets_sinks (neq x y) γ = refl
  meets_sinks (rev x y) γ = refl
  meets_sinks (cat x y z) γ = refl
  meets_sinks (sub x y n) γ = refl
  meets_sinks (len x n) γ = refl
  meets_sinks (regular x d) γ = get_or-accepts P.symbols P.automata proper d (γ.text x)

  pub sinks_same : SameAnswers P (with_sinks P)
  unfolding with_sinks
  sinks_same = alike_same (record {
    strings-same = refl;
    numbers-same = refl;
    constraints_match = record {
      as_many = refl;
      each = λ j h. record { variables-same = refl; meets-same = meets_sinks (get_or P.constraints j (always 0)) };
    };
  })

-- ---- what refusal 5 leaves

-- four bytes have no bit at 64 or above, where `none_from` does not look
little-low : (bs : List ℕ) → Bytes bs → (p : ℕ) → bit (little (take 4 bs)) p ≡ true → p < 64
little-low bs bytes p h = let l : p < 32 = bit_high (little (take 4 bs)) 32 p (little_lt 4 bs bytes) h in omega arith

pub automaton_proper : (k : ℕ) (bs : List ℕ) → Bytes bs → (A : Automaton) → automaton k bs ≡ some A → Proper A
unfolding automaton
automaton_proper k bs bytes A e =
    let q = get_or bs 0 0 in
    let accepting = little (part 1 4 bs) in
    let rows = pieces q k (drop 5 bs) in
    let g = given-some _ _ A e in
    let t = and_true _ (all (known q) (part 5 (q * k) bs)) g.0 in
    let u = and_true (leb 1 q && leb q 32 && leb (5 + q * k) (length bs)) (none_from q accepting) t.0 in
    let states : q ≡ length (map (map target) rows) = sym (length-map rows (map target) ∙ pieces-length q k (drop 5 bs)) in
    subst Proper (sym g.1) (record {
      accepting-state = λ p h.
          let l = little-low (drop 1 bs) (drop-bytes 1 bs bytes) p h in
          subst (λ (n : ℕ). p < n) states (none_from-bits q accepting u.1 p (in_bits accepting p h l));
    })

automata_proper : (k d : ℕ) (bs : List ℕ) → Bytes bs → (As : List Automaton) → automata_in k d bs ≡ some As → (A : Automaton) → In A As → Proper A
unfolding automata_in
automata_proper k zero bs bytes As e A m = absurd (Memᴰ.not-nil (subst (λ (l : List Automaton). In A l) (given-some _ [] As e).1 m))
automata_proper k (suc d) bs bytes As e A m =
    let rest = drop (5 + get_or bs 0 0 * k) bs in
    let u = bind-some (automaton k bs) _ As e in
    let w = bind-some (automata_in k d rest) _ As u.2 in
    let g = given-some true (u.0 ∷ w.0) As w.2 in
    ⊎_elim
    (λ q. subst Proper (sym q) (automaton_proper k bs bytes u.0 u.1))
    (λ n. automata_proper k d rest (drop-bytes (5 + get_or bs 0 0 * k) bs bytes) w.0 w.1 A n)
    (Memᴰ.cases_cons (subst (λ (l : List Automaton). In A l) g.1 m))

-- the automata of an accepted file are those of its bytes
problem-automata : (p : Parts) (a : Accepted) → problem_of p ≡ answered a
    → automata_in p.symbols p.automata p.automata_bytes ≡ some a.problem.automata
unfolding problem_of
problem-automata p a e =
    let t₅ = obtain-answered _ 5 _ a e in
    let t₆ = require-answered _ 6 _ a t₅.2 in
    let t₇ = obtain-answered _ 7 _ a t₆.1 in
    let t₈ = require-answered _ 8 _ a t₇.2 in
    t₅.1 ∙ ap (λ (b : Accepted). some b.problem.automata) (answered_inj t₈.1)

module _ (file : List ℕ) (bytes : Bytes file) (a : Accepted) (accepted : reading file ≡ answered a) where
  pub reading_proper : (A : Automaton) → In A a.problem.automata → Proper A
  unfolding reading
  reading_proper =
      let t = and_then-answered (layout file) problem_of a accepted in
      let p = t.0 in
      automata_proper p.symbols p.automata p.automata_bytes (layout-bytes file bytes p t.1).1 a.problem.automata (problem-automata p a t.2)

  pub reading_sinks : SameAnswers a.problem (with_sinks a.problem)
  reading_sinks = sinks_same a.problem reading_proper
