-- The same automaton with a sink written out (document 02, ticket 5), of any number of states; and what two problems have in common. Assumes nothing.
use Rattle.std.specs.Prelude.{◌≡◌, true, ◌↔◌, List, [], ◌∷◌, ◌++◌, map, ℕ, ◌<◌, length, replicate}
use Rattle.std.proofs.Math.Option.{Option, none, some}
use Rattle.model.specs.Words.{bit}
use Rattle.model.specs.Constraints.{Automaton, Problem, Choice}
use Rattle.model.specs.Solutions.{Solution}
use Rattle.model.specs.Support.{narrowed}
use Rattle.model.specs.Rounds.{settling}
use Rattle.model.specs.Tree.{nodes, searching}
use Rattle.model.specs.Operations.{step_at}
use Rattle.model.specs.Queue.{queueing}

-- a move, where the sink is state q: one that is missing leads there
unfoldable pub to_sink : ℕ → Option ℕ → Option ℕ
to_sink q none = some q
to_sink q (some p) = some p

-- "the same automaton with a sink written out": one state more, which no string is accepted in, and which every one of the k symbols leads back to
unfoldable pub with_sink : ℕ → Automaton → Automaton
with_sink k A =
    let q = length A.moves in
    record { accepting = A.accepting; moves = map (map (to_sink q)) A.moves ++ (replicate k (some q) ∷ []) }

-- the problem whose automata are all replaced so
unfoldable pub with_sinks : Problem → Problem
with_sinks P = record {
  symbols = P.symbols;
  strings = P.strings;
  numbers = P.numbers;
  constraints = P.constraints;
  automata = map (with_sink P.symbols) P.automata;
}

-- what refusal 5 leaves of an automaton, whatever its number of states: "bits at q and above are 0"
pub record Proper (A : Automaton) : Type 0 where
  pub accepting-state : (p : ℕ) → bit A.accepting p ≡ true → p < length A.moves

-- "Solutions and node counts are those of the same automaton with a sink written out": P and Q have the same solutions, and from every table the same steps, the
-- same rounds and settled table, by the rule of the queue too, and the same list of nodes, and so the same outcome, count and answer table for every budget
pub record SameAnswers (P Q : Problem) : Type 0 where
  pub solutions : (T : List ℕ) (α : Choice) → Solution P T α ↔ Solution Q T α
  pub step : (j : ℕ) (T : List ℕ) → narrowed P (step_at P j) T ≡ narrowed Q (step_at Q j) T
  pub settling : (T : List ℕ) → settling P T ≡ settling Q T
  pub queueing : (T : List ℕ) → queueing P T ≡ queueing Q T
  pub nodes : (T : List ℕ) → nodes P T ≡ nodes Q T
  pub searching : (T : List ℕ) (budget : ℕ) (A : List ℕ) → searching P T budget A ≡ searching Q T budget A
