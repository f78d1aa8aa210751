-- Laws of looking a file over: its reading is refused exactly with the number found, and an accepted file has the counts and the table of its parts.
-- Assumes nothing.
use mathlib.Core.Path.{◌≡◌, refl, sym, ap, subst, ◌∙◌}
use mathlib.Core.List.{List, map}
use mathlib.Core.Option.{some}
use Prim.Native.Nat.{ℕ, ◌+◌, ◌*◌}
use lib.ListN.{length}
use Rattle.model.specs.Lists.{collect}
use Rattle.model.specs.Replies.{Reply, refused, answered, and_then}
use Rattle.model.specs.Layout.{Parts, little, layout}
use Rattle.model.specs.Reading.{automata_in, decode, pieces, Accepted, problem_of, reading}
use Rattle.laws.proofs.ReplyLaws.{require-answered, obtain-answered, and_then-answered, answered_inj, refused≢answered}
use Rattle.laws.proofs.CollectLaws.{collect-length}
use Rattle.laws.proofs.ReadingLaws.{pieces-length}
use Rattle.automata.proofs.AutomataWalkLaws.{automata-count}
use Rattle.format.specs.Accepting.{accepted}

-- ---- what an accepted file holds of its parts

pub record Holds (p : Parts) (a : Accepted) : Type 0 where
  pub symbols : a.problem.symbols ≡ p.symbols
  pub strings : a.problem.strings ≡ p.strings
  pub numbers : a.problem.numbers ≡ p.numbers
  pub automata : length a.problem.automata ≡ p.automata
  pub constraints : length a.problem.constraints ≡ p.constraints
  pub machines : automata_in p.symbols p.automata p.automata_bytes ≡ some a.problem.automata
  pub decoded : collect (decode p.strings p.numbers p.automata) (pieces p.constraints 4 p.constraint_bytes) ≡ some a.problem.constraints
  pub table : a.table ≡ map little (pieces (64 * p.strings + p.numbers) 8 p.table_bytes)

pub problem_of-holds : (p : Parts) (a : Accepted) → problem_of p ≡ answered a → Holds p a
unfolding problem_of
problem_of-holds p a e =
    let t₅ = obtain-answered _ 5 _ a e in
    let t₆ = require-answered _ 6 _ a t₅.2 in
    let t₇ = obtain-answered _ 7 _ a t₆.1 in
    let t₈ = require-answered _ 8 _ a t₇.2 in
    subst (Holds p) (answered_inj t₈.1) (record {
      symbols = refl;
      strings = refl;
      numbers = refl;
      automata = automata-count p.symbols p.automata p.automata_bytes t₅.0 t₅.1;
      constraints = collect-length _ (pieces p.constraints 4 p.constraint_bytes) t₇.0 t₇.1 ∙ pieces-length p.constraints 4 p.constraint_bytes;
      machines = t₅.1;
      decoded = t₇.1;
      table = refl;
    })

-- ---- the reading of a file that was looked over

pub reading-refused : (file : List ℕ) (n : ℕ) → refused n ≡ accepted file → reading file ≡ refused n
unfolding accepted reading and_then
reading-refused file n e = go (layout file) e
  where
    inner : (p : Parts) (r : Reply Accepted) → refused n ≡ and_then r (λ a. answered p) → r ≡ refused n
    inner p (refused m) e = cc
    inner p (answered a) e = absurd (refused≢answered e)

    go : (l : Reply Parts) → refused n ≡ and_then l (λ p. and_then (problem_of p) (λ a. answered p)) → and_then l problem_of ≡ refused n
    go (refused m) e = cc
    go (answered p) e = inner p (problem_of p) e

-- the reading of a file with these parts
pub record Held (file : List ℕ) (p : Parts) : Type 0 where
  pub content : Accepted
  pub parted : problem_of p ≡ answered content
  pub read : reading file ≡ answered content
  pub holds : Holds p content

pub reading-held : (file : List ℕ) (p : Parts) → answered p ≡ accepted file → Held file p
unfolding accepted reading and_then
reading-held file p e =
    let t = and_then-answered (layout file) (λ p. and_then (problem_of p) (λ a. answered p)) p (sym e) in
    let u = and_then-answered (problem_of t.0) (λ a. answered t.0) p t.2 in
    let q : t.0 ≡ p = answered_inj u.2 in
    record {
      content = u.0;
      parted = ap problem_of (sym q) ∙ u.1;
      read = ap (λ l. and_then l problem_of) t.1 ∙ u.1;
      holds = subst (λ p. Holds p u.0) q (problem_of-holds t.0 u.0 u.1);
    }
