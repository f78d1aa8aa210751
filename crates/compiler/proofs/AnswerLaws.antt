-- Each answer of the compiler is the definition's. Assumes nothing.
use mathlib.Core.Path.{◌≡◌, refl, sym, ap, ap₂, subst, ◌∙◌, fun_ext}
use mathlib.Core.Bool.{true, false}
use mathlib.Core.List.{List, [], ◌∷◌, ◌++◌}
use mathlib.Core.Option as maybe
use Rattle.std.specs.Prelude.{Option, Some, None, Ok, Err}
use Prim.Native.Nat.{ℕ, ◌+◌, ◌-◌, ◌*◌, ◌/◌, ◌%◌, ◌^◌, ◌≤◌, ◌<◌}
use native.Mathlib.Omega.{arith}
use native.Mathlib.Nat.{mod-lt}
use lib.Bits.{bit_or, or_zero_l}
use lib.Dec.{leb}
use lib.ListN.{length, get_or, drop, replicate, get_or-replicate}
use borrow.Rule.Slice.PartMut.{put_mid}
use borrow.Author.Tests.{le-leb, lt-leb}
use Rattle.model.specs.Lists.{upto}
use Rattle.model.specs.Words.{bits, union}
use Rattle.model.specs.Constraints.{Automaton, move}
use Rattle.model.specs.Replies.{answered, require}
use Rattle.laws.specs.Inclusion.{In}
use Rattle.laws.proofs.ListLaws.{map_cong}
use Rattle.laws.proofs.WordLaws.{of-bits}
use Rattle.model.specs.Pattern.{Pattern}
use Rattle.model.specs.PatternText.{parsed, parse, symbol_at}
use Rattle.model.specs.PatternStates.{State, start, passed, when, first, follow, having, ahead, advance}
use Rattle.model.specs.Numbering.{number_in, explore}
use Rattle.model.specs.Compile.{same_state, successors, states, automaton_of, bytes_of, byte_of, encoded, letters_below, when_parsed, compiled_bytes}
use Rattle.patterns.proofs.AutomatonLaws.{Closed, move-is, states-closed}
use Rattle.patterns.proofs.CompileLaws.{moves-length, rows_right}
use Rattle.patterns.proofs.EncodingLaws.{Rows, flat_length}
use Rattle.parser.specs.Reads.{Holds, Followed, Says}
use Rattle.parser.specs.declared.Part.{Part}
use Rattle.parser.proofs.ReadLaws.{says-bad, says-found}
use Rattle.numbering.specs.Exploring.{joined, state_at, listed, ahead_in, advance_in, successors_in, states_in}
use Rattle.numbering.proofs.StandLaws.{stands-length, stands_at}
use Rattle.refusals.specs.declared.Refusal.TheVariants.{Pattern as NoPattern, Alphabet, States, BufferLength}
use Rattle.compiler.specs.Answers.{Sorted, final_in, Told}
use Rattle.compiler.proofs.SortLaws.{sorted_having}
use Rattle.compiler.proofs.TestLaws.{accepting-right}
use Rattle.compiler.proofs.BufferLaws.{row_of, buffer-right}

-- ---- the states that the code numbers are the pattern's

module _ (k : ℕ) (s P : List ℕ) (e : Pattern) (firsts : ℕ) (F : List ℕ) (sorted : Sorted s 64 P) (same_first : firsts ≡ first e)
    (same-follow : (p : ℕ) → p < 64 → get_or F p 0 ≡ follow e p) where
  ahead-same : (x : State) → ahead_in firsts F x ≡ ahead e x
  unfolding ahead_in ahead
  ahead-same start = same_first
  ahead-same (passed w) = ap union (map_cong (λ p. get_or F p 0) (follow e) (bits w) (λ p m. same-follow p (of-bits w m).1))

  pub advance-same : (x : State) (a : ℕ) → advance_in P firsts F x a ≡ advance (symbol_at s) e x a
  unfolding advance_in advance
  advance-same x a = ap passed (sorted_having s P sorted a (ahead_in firsts F x) ∙ ap (having (symbol_at s) a) (ahead-same x))

  pub states-same : states_in k P firsts F ≡ states k (symbol_at s) e
  unfolding states_in states successors_in successors
  states-same = ap (λ (f : State → List State). explore same_state f start 32 0 (start ∷ [])) (fun_ext (λ x. map_cong (advance_in P firsts F x) (advance (symbol_at s) e x) (upto k) (λ a m. advance-same x a)))

followed-zeros : (e : Pattern) (F : List ℕ) → Followed (replicate 64 0) e F → (p : ℕ) → p < 64 → get_or F p 0 ≡ follow e p
followed-zeros e F h p l = h.each p l ∙ ap (λ (w : ℕ). bit_or w (follow e p)) (get_or-replicate 64 p 0 0 l) ∙ or_zero_l (follow e p)

encoded-size-of : (A : Automaton) (k n : ℕ) → length A.moves ≡ n → ((row : List (maybe.Option ℕ)) → In row A.moves → length row ≡ k)
    → length (encoded A) ≡ 5 + n * k
unfolding encoded bytes_of
encoded-size-of A k n count wide = let f = flat_length k A.moves wide in let g = ap (λ (x : ℕ). x * k) count in omega (arith, f, g)

-- ---- the answers

pub told_long : (s : List ℕ) (k : ℕ) (B : List ℕ) → 63 < length s → Told (compiled_bytes k s (length B)) B B (Err NoPattern)
unfolding compiled_bytes require Told
told_long s k B l = rw (lt-leb (length s) 63 l) (refl, refl)

module _ (s : List ℕ) (short : length s ≤ 63) (k : ℕ) (B F : List ℕ) (r : Option Part) (says : Says (replicate 64 0) F (parse s) r) where
  pub told_bad : r ≡ None → Told (compiled_bytes k s (length B)) B B (Err NoPattern)
  unfolding compiled_bytes require when_parsed Told
  told_bad e = rw (le-leb (length s) 63 short, says-bad (replicate 64 0) F (parse s) r says e) (refl, refl)

  module _ (part : Part) (read : r ≡ Some part) where
    pub told_few : k < 1 → Told (compiled_bytes k s (length B)) B B (Err Alphabet)
    unfolding compiled_bytes require when_parsed Told
    told_few l = let b = says-found (replicate 64 0) F (parse s) r part says read in rw (le-leb (length s) 63 short, b.1, lt-leb 1 k l) (refl, refl)

    pub told_many : 64 < k → Told (compiled_bytes k s (length B)) B B (Err Alphabet)
    unfolding compiled_bytes require when_parsed Told
    told_many l = let b = says-found (replicate 64 0) F (parse s) r part says read in rw (le-leb (length s) 63 short, b.1, le-leb 1 k (omega arith), lt-leb k 64 l) (refl, refl)

    module _ (low : 1 ≤ k) (high : k ≤ 64) where
      pub told_letters : letters_below k s ≡ false → Told (compiled_bytes k s (length B)) B B (Err Alphabet)
      unfolding compiled_bytes require when_parsed Told
      told_letters e = let b = says-found (replicate 64 0) F (parse s) r part says read in rw (le-leb (length s) 63 short, b.1, le-leb 1 k low, le-leb k 64 high, e) (refl, refl)

      module _ (letters : letters_below k s ≡ true) (P : List ℕ) (sorted : Sorted s 64 P) where
        -- the pattern, and its states
        pattern : Pattern
        pattern = (says-found (replicate 64 0) F (parse s) r part says read).0

        parsed-pattern : parse s ≡ parsed pattern part.end
        unfolding pattern
        parsed-pattern = (says-found (replicate 64 0) F (parse s) r part says read).1

        holds-pattern : Holds pattern part.end part
        unfolding pattern
        holds-pattern = (says-found (replicate 64 0) F (parse s) r part says read).2

        follows_pattern : (p : ℕ) → p < 64 → get_or F p 0 ≡ follow pattern p
        unfolding pattern
        follows_pattern = followed-zeros pattern F (says-found (replicate 64 0) F (parse s) r part says read).3

        same_states : states_in k P part.first F ≡ states k (symbol_at s) pattern
        same_states = states-same k s P pattern part.first F sorted holds-pattern.firsts follows_pattern

        pub told_states : 32 < length (states_in k P part.first F) → Told (compiled_bytes k s (length B)) B B (Err States)
        unfolding compiled_bytes require when_parsed Told
        told_states l =
            let g : 32 < length (states k (symbol_at s) pattern) = omega (arith, ap length same_states) in
            rw (le-leb (length s) 63 short, parsed-pattern, le-leb 1 k low, le-leb k 64 high, letters, lt-leb (length (states k (symbol_at s) pattern)) 32 g) (refl, refl)

        module _ (sets : List ℕ) (n : ℕ) (stands : states_in k P part.first F ≡ listed sets n) (few : n ≤ 32) where
          stands-pattern : states k (symbol_at s) pattern ≡ listed sets n
          stands-pattern = sym same_states ∙ stands

          pub told_room : length B < 5 + n * k → Told (compiled_bytes k s (length B)) B B (Err BufferLength)
          unfolding compiled_bytes require when_parsed Told
          told_room l =
              let q = stands-length sets n (states k (symbol_at s) pattern) stands-pattern in
              let x : length B < 5 + length (states k (symbol_at s) pattern) * k = subst (λ (m : ℕ). length B < 5 + m * k) (sym q) l in
              rw (le-leb (length s) 63 short, parsed-pattern, le-leb 1 k low, le-leb k 64 high, letters, le-leb (length (states k (symbol_at s) pattern)) 32 (omega arith), lt-leb (5 + length (states k (symbol_at s) pattern) * k) (length B) x) (refl, refl)

          -- the automaton and what the code knows of it
          machine : Automaton
          machine = automaton_of k (symbol_at s) pattern (states k (symbol_at s) pattern)

          closed : Closed k (symbol_at s) pattern (states k (symbol_at s) pattern)
          closed = let q = stands-length sets n (states k (symbol_at s) pattern) stands-pattern in states-closed k (symbol_at s) pattern (omega arith)

          count : length machine.moves ≡ n
          unfolding machine
          count = moves-length k (symbol_at s) pattern (states k (symbol_at s) pattern) closed ∙ stands-length sets n (states k (symbol_at s) pattern) stands-pattern

          rows : Rows k (length machine.moves) machine.moves
          unfolding machine
          rows = rows_right k (symbol_at s) pattern (states k (symbol_at s) pattern) closed

          accepts-same : joined (λ (i : ℕ). when (final_in part.nullable part.last (state_at sets i)) (2 ^ i)) n ≡ machine.accepting
          unfolding machine automaton_of
          accepts-same = accepting-right pattern sets n (states k (symbol_at s) pattern) part.nullable part.last stands-pattern holds-pattern.empties holds-pattern.lasts

          entry : (t : ℕ) → t < n * k
              → number_in same_state (listed sets n) (advance_in P part.first F (state_at sets (t / k)) (t % k)) ≡ byte_of (move machine (t / k) (t % k))
          unfolding machine byte_of
          entry t l =
              let i = row_of t n k low l in
              let Q = states k (symbol_at s) pattern in
              let q = stands-length sets n (states k (symbol_at s) pattern) stands-pattern in
              ap₂ (number_in same_state) (sym stands-pattern) (advance-same k s P pattern part.first F sorted holds-pattern.firsts follows_pattern (state_at sets (t / k)) (t % k) ∙ ap (λ (x : State). advance (symbol_at s) pattern x (t % k)) (sym (stands_at sets n (states k (symbol_at s) pattern) stands-pattern (t / k) i)))
              ∙ sym (ap byte_of (move-is k (symbol_at s) pattern (states k (symbol_at s) pattern) closed (t / k) (t % k) (omega arith) (mod-lt t low)))

          answer : compiled_bytes k s (length B) ≡ require (leb (5 + length (states k (symbol_at s) pattern) * k) (length B)) 17 (answered (encoded machine))
          unfolding compiled_bytes require when_parsed machine
          answer =
              let q = stands-length sets n (states k (symbol_at s) pattern) stands-pattern in
              rw (le-leb (length s) 63 short, parsed-pattern, le-leb 1 k low, le-leb k 64 high, letters, le-leb (length (states k (symbol_at s) pattern)) 32 (omega arith))

          pub told_written : (C₁ R : List ℕ) (acc : ℕ) → 5 + n * k ≤ length B → length R ≡ n * k
              → acc ≡ joined (λ (i : ℕ). when (final_in part.nullable part.last (state_at sets i)) (2 ^ i)) n
              → C₁ ≡ n ∷ (bytes_of 4 acc ++ drop 5 B)
              → ((t : ℕ) → t < n * k → get_or R t 0 ≡ number_in same_state (listed sets n) (advance_in P part.first F (state_at sets (t / k)) (t % k)))
              → Told (compiled_bytes k s (length B)) B (put_mid 5 (5 + n * k - 5) C₁ R) (Ok (5 + n * k))
          unfolding require Told
          told_written C₁ R acc fits wide e h rowed =
              let q = stands-length sets n (states k (symbol_at s) pattern) stands-pattern in
              let x : 5 + length (states k (symbol_at s) pattern) * k ≤ length B = subst (λ (m : ℕ). 5 + m * k ≤ length B) (sym q) fits in
              let z : 5 + n * k - 5 ≡ n * k = omega arith in
              let c = buffer-right machine k n B R (λ (t : ℕ). number_in same_state (listed sets n) (advance_in P part.first F (state_at sets (t / k)) (t % k))) count rows.wide low wide rowed entry in
              let head : C₁ ≡ n ∷ (bytes_of 4 machine.accepting ++ drop 5 B) = h ∙ ap (λ (w : ℕ). n ∷ (bytes_of 4 w ++ drop 5 B)) (e ∙ accepts-same) in
              rw (answer, le-leb (5 + length (states k (symbol_at s) pattern) * k) (length B) x) (size, ap₂ (λ (m : ℕ) (D : List ℕ). put_mid 5 m D R) z head ∙ c)
            where
              size : 5 + n * k ≡ length (encoded machine)
              size = sym (encoded-size-of machine k n count rows.wide)
