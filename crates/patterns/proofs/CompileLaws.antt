-- The bytes for a text are an automaton that accepts just the pattern's language. Assumes nothing.
use mathlib.Core.Logic.{◌≢◌}
use mathlib.Core.Path.{◌≡◌, refl, sym, ap, subst, ◌∙◌}
use mathlib.Core.List.Memᴰ
use mathlib.Core.List.{List, map, flat_map}
use mathlib.Core.Option.{Option, some, some-injective}
use Prim.Native.Nat.{ℕ, ◌≤◌, ◌<◌}
use native.Mathlib.Omega.{arith}
use lib.ListN.{length, drop, length-map}
use lib.Dec.{ltb}
use borrow.Author.Tests.{leb-true, ltb-true}
use Rattle.model.specs.Lists.{upto}
use Rattle.model.specs.Replies.{Reply, answered}
use Rattle.model.specs.Reading.{automaton}
use Rattle.laws.specs.Inclusion.{In}
use Rattle.laws.proofs.ListLaws.{of-all, of-flat_map, in_get_or, from-length}
use Rattle.laws.proofs.ReplyLaws.{require-answered}
use Rattle.model.specs.Pattern.{Pattern}
use Rattle.model.specs.PatternText.{Parsed, bad, parsed, parse, symbol_at}
use Rattle.model.specs.PatternStates.{State, start, advance}
use Rattle.model.specs.Numbering.{number_in}
use Rattle.model.specs.Compile.{same_state, successors, states, automaton_of, bytes_of, byte_of, encoded, when_parsed, compiled_bytes, AcceptsLanguage}
use Rattle.patterns.proofs.TextLaws.{parse_spans, parse-end}
use Rattle.patterns.proofs.StateLaws.{accepts-language}
use Rattle.patterns.proofs.NumberingLaws.{number-in}
use Rattle.patterns.proofs.AutomatonLaws.{Closed, same-sound, same_whole, accepting-below, states-closed, states-start, accepts-states}
use Rattle.patterns.proofs.EncodingLaws.{Rows, automaton-encoded}

of-when_parsed : {B : Type 0} (r : Parsed) (f : Pattern → Reply B) (b : B) → when_parsed r f ≡ answered b
    → (e : Pattern) × (p : ℕ) × (r ≡ parsed e p) × (f e ≡ answered b)
unfolding when_parsed
of-when_parsed bad f b h = let z : ◌≡◌ {A = ℕ} 0 1 = cc in absurd (omega arith)
of-when_parsed (parsed e p) f b h = (e, p, refl, h)

module _ (k : ℕ) (symbol : ℕ → ℕ) (e : Pattern) (Q : List State) (closed : Closed k symbol e Q) where
  -- the row of a state
  abbrev row_of : State → List (Option ℕ)
  row_of x = map (λ y. some (number_in same_state Q y)) (successors k symbol e x)

  pub moves-length : length (automaton_of k symbol e Q).moves ≡ length Q
  unfolding automaton_of
  moves-length = length-map Q row_of

  rows-wide : (row : List (Option ℕ)) → In row (automaton_of k symbol e Q).moves → length row ≡ k
  unfolding automaton_of successors upto
  rows-wide row m =
      let t = Memᴰ.of_map row_of Q m in
      ap length (sym t.2) ∙ length-map (successors k symbol e t.0) _ ∙ length-map (upto k) (advance symbol e t.0) ∙ from-length 0 k

  -- a pattern's automaton has no gap: every entry is a state
  pub every_move : (row : List (Option ℕ)) (m : Option ℕ) → In row (automaton_of k symbol e Q).moves → In m row → (p : ℕ) × (m ≡ some p) × (p < length Q)
  unfolding automaton_of
  every_move row m i n =
      let t = Memᴰ.of_map row_of Q i in
      let u = Memᴰ.of_map (λ y. some (number_in same_state Q y)) (successors k symbol e t.0) (subst (λ (r : List (Option ℕ)). In m r) (sym t.2) n) in
      let j = in_get_or Q start t.1 in
      let y = closed j.0 j.1 u.0 (subst (λ (x : State). In u.0 (successors k symbol e x)) (sym j.2) u.1) in
      (number_in same_state Q u.0, sym u.2, (number-in same_state same-sound same_whole Q u.0 start y).0)

  -- so every byte of its rows is the number of a state
  row-bytes : (b : ℕ) → In b (flat_map (map byte_of) (automaton_of k symbol e Q).moves) → b < length Q
  unfolding byte_of
  row-bytes b i =
      let t = of-flat_map (map byte_of) (automaton_of k symbol e Q).moves i in
      let u = Memᴰ.of_map byte_of t.0 t.2 in
      let m = every_move t.0 u.0 t.1 u.1 in
      rw (sym u.2, m.1) m.2

  pub rows_right : Rows k (length (automaton_of k symbol e Q).moves) (automaton_of k symbol e Q).moves
  rows_right = record {
    wide = rows-wide;
    below = λ row p i n. let t = every_move row (some p) i n in rw (moves-length, some-injective p t.0 t.1) t.2;
  }

-- an accepted text is a short pattern, of few states, and the bytes are those of its automaton
written : (k : ℕ) (s : List ℕ) (room : ℕ) (bs : List ℕ) → compiled_bytes k s room ≡ answered bs
    → (e : Pattern) × (p : ℕ) × (parse s ≡ parsed e p) × (length s ≤ 63) × (length (states k (symbol_at s) e) ≤ 32)
    × (encoded (automaton_of k (symbol_at s) e (states k (symbol_at s) e)) ≡ bs)
unfolding compiled_bytes
written k s room bs h =
    let r₁ = require-answered _ 14 _ bs h in
    let p = of-when_parsed (parse s) _ bs r₁.1 in
    let e = p.0 in
    let r₂ = require-answered _ 15 _ bs p.3 in
    let r₃ = require-answered _ 16 _ bs r₂.1 in
    let r₄ = require-answered _ 17 _ bs r₃.1 in
    let same : encoded (automaton_of k (symbol_at s) e (states k (symbol_at s) e)) ≡ bs = cc in
    (e, p.1, p.2, leb-true (length s) 63 r₁.0, leb-true (length (states k (symbol_at s) e)) 32 r₃.0, same)

-- no byte of the rows that are written says that a move is missing: a state's number is at most 31
pub no_gap_written : (k : ℕ) (s : List ℕ) (room : ℕ) (bs : List ℕ) → compiled_bytes k s room ≡ answered bs → (b : ℕ) → In b (drop 5 bs) → b ≢ 255
unfolding encoded bytes_of
no_gap_written k s room bs h b i z =
    let p = written k s room bs h in
    let few = p.4 in
    let m = subst (λ (xs : List ℕ). In b (drop 5 xs)) (sym p.5) i in
    let l = row-bytes k (symbol_at s) p.0 (states k (symbol_at s) p.0) (states-closed k (symbol_at s) p.0 few) b m in
    omega arith

-- an accepted text is a pattern, and the bytes are an automaton that accepts just its language
pub compiled : (k : ℕ) (s : List ℕ) (room : ℕ) (bs : List ℕ) → compiled_bytes k s room ≡ answered bs → AcceptsLanguage k s bs
compiled k s room bs h =
    let p = written k s room bs h in
    let e = p.0 in
    let Q = states k (symbol_at s) e in
    let short = p.3 in
    let few = p.4 in
    let closed = states-closed k (symbol_at s) e few in
    let A = automaton_of k (symbol_at s) e Q in
    let n = moves-length k (symbol_at s) e Q closed in
    let some-state = (states-start k (symbol_at s) e).0 in
    record {
      pattern = e;
      reads = p.2 ∙ ap (parsed e) (parse-end s e p.1 p.2);
      machine = A;
      holds =
          ap (automaton k) (sym p.5)
          ∙ automaton-encoded k A (omega arith) (omega arith) (rows_right k (symbol_at s) e Q closed) (λ b m.
          let l = accepting-below k (symbol_at s) e Q closed b m in
          omega arith);
      language = λ w small.
          let a = accepts-states k (symbol_at s) e few w (λ b m. ltb-true b k (of-all (λ b. ltb b k) small m)) in
          let l = accepts-language (symbol_at s) e 0 (length s) (parse_spans s e p.1 p.2) (omega arith) w in
          (λ t. l.0 (sym a ∙ t), λ t. a ∙ l.1 t);
    }
