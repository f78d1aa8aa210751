-- The numbered automaton accepts a string just when the states reach a final one by it. Assumes nothing.
use mathlib.Core.Path.{◌≡◌, refl, sym, ap, subst, ◌∙◌}
use mathlib.Core.Bool.{true, false≢true}
use mathlib.Core.List.Memᴰ
use mathlib.Core.List.{List, [], ◌∷◌, map}
use mathlib.Core.Option.{Option, none, some, bind}
use Prim.Native.Nat.{ℕ, ◌+◌, ◌^◌, ◌≤◌, ◌<◌}
use native.Mathlib.Omega.{arith}
use lib.ListN.{length, get_or, length-map}
use borrow.Author.Tests.{eqb-true, eq-eqb}
use Rattle.model.specs.Lists.{select, from, upto}
use Rattle.model.specs.Words.{bit}
use Rattle.model.specs.Constraints.{move, reached, holds, accepts}
use Rattle.laws.specs.Inclusion.{In}
use Rattle.laws.proofs.ListLaws.{of-select, in_select, in_upto, of-upto, from-length, from-get_or, get_d_map}
use Rattle.laws.proofs.WordLaws.{bool_ext, pow_self, pow-only}
use Rattle.model.specs.Pattern.{Pattern}
use Rattle.model.specs.PatternStates.{State, start, passed, advance, state_after, final}
use Rattle.model.specs.Numbering.{number_in}
use Rattle.model.specs.Compile.{same_state, successors, states, automaton_of}
use Rattle.patterns.proofs.StateLaws.{of_family, in_family}
use Rattle.patterns.proofs.NumberingLaws.{number-in, explore_extends, explore-done}

pub same-sound : (x y : State) → same_state x y ≡ true → x ≡ y
unfolding same_state
same-sound start start e = refl
same-sound start (passed v) e = absurd (false≢true e)
same-sound (passed w) start e = absurd (false≢true e)
same-sound (passed w) (passed v) e = ap passed (eqb-true w v e)

pub same_whole : (x : State) → same_state x x ≡ true
unfolding same_state
same_whole start = refl
same_whole (passed w) = eq-eqb w w refl

module _ (k : ℕ) (symbol : ℕ → ℕ) (e : Pattern) where
  pub advance-in : (x : State) (a : ℕ) → a < k → In (advance symbol e x a) (successors k symbol e x)
  unfolding successors
  advance-in x a l = Memᴰ.map (advance symbol e x) (in_upto k a l)

  -- every state of the list has its successors in the list
  abbrev pub Closed : List State → Type 0
  Closed Q = (j : ℕ) → j < length Q → (y : State) → In y (successors k symbol e (get_or Q j start)) → In y Q

  module _ (Q : List State) (closed : Closed Q) where
    -- every move exists: it leads to the state that the symbol leads to
    pub move-is : (j a : ℕ) → j < length Q → a < k → move (automaton_of k symbol e Q) j a ≡ some (number_in same_state Q (advance symbol e (get_or Q j start) a))
    unfolding move automaton_of successors upto
    move-is j a l h =
        let x = get_or Q j start in
        let n : a < length (map (advance symbol e x) (from 0 k)) = subst (λ (m : ℕ). a < m) (sym (length-map (from 0 k) (advance symbol e x) ∙ from-length 0 k)) h in
        let z : 0 + a ≡ a = omega arith in
        let number : State → Option ℕ = λ y. some (number_in same_state Q y) in
        ap (λ (row : List (Option ℕ)). get_or row a none) (get_d_map (λ y. map number (map (advance symbol e y) (from 0 k))) Q j start [] l)
        ∙ get_d_map number (map (advance symbol e x) (from 0 k)) a start none n
        ∙ ap number (from-get_or (advance symbol e x) 0 k a start h ∙ ap (advance symbol e x) z)

    -- after the same symbols the automaton is in the state whose number the set has
    pub reached-run : (w : List ℕ) (j : ℕ) → j < length Q → ((a : ℕ) → In a w → a < k)
        → (i : ℕ) × (reached (automaton_of k symbol e Q) j w ≡ some i) × (i < length Q) × (get_or Q i start ≡ state_after symbol e (get_or Q j start) w)
    unfolding reached state_after bind
    reached-run [] j l h = (j, refl, l, refl)
    reached-run (a ∷ w) j l h =
        let small = h a (Memᴰ.head refl) in
        let y = advance symbol e (get_or Q j start) a in
        let n = number-in same_state same-sound same_whole Q y start (closed j l y (advance-in (get_or Q j start) a small)) in
        let t = reached-run w (number_in same_state Q y) n.0 (λ b m. h b (Memᴰ.tail m)) in (
          t.0,
          ap (λ (m : Option ℕ). bind m (λ p. reached (automaton_of k symbol e Q) p w)) (move-is j a l small) ∙ t.1,
          t.2,
          t.3 ∙ ap (λ (x : State). state_after symbol e x w) n.1,
        )

    pub accepting-is : (j : ℕ) → j < length Q → bit (automaton_of k symbol e Q).accepting j ≡ final e (get_or Q j start)
    unfolding automaton_of
    accepting-is j l = bool_ext _ _
        (λ h.
        let t = of_family (λ i. 2 ^ i) (select (λ i. final e (get_or Q i start)) (upto (length Q))) j h in
        let m = of-select (λ i. final e (get_or Q i start)) (upto (length Q)) t.1 in
        subst (λ (i : ℕ). final e (get_or Q i start) ≡ true) (sym (pow-only t.0 j t.2)) m.1)
        (λ h. in_family (λ i. 2 ^ i) (select (λ i. final e (get_or Q i start)) (upto (length Q))) j j (in_select (λ i. final e (get_or Q i start)) (in_upto (length Q) j l) h) (pow_self j))

    pub accepting-below : (j : ℕ) → bit (automaton_of k symbol e Q).accepting j ≡ true → j < length Q
    unfolding automaton_of
    accepting-below j h =
        let t = of_family (λ i. 2 ^ i) (select (λ i. final e (get_or Q i start)) (upto (length Q))) j h in
        let m = of-select (λ i. final e (get_or Q i start)) (upto (length Q)) t.1 in
        let u = of-upto (length Q) m.0 in
        let q = pow-only t.0 j t.2 in
        omega arith

    pub accepts-run : 0 < length Q → get_or Q 0 start ≡ start → (w : List ℕ) → ((a : ℕ) → In a w → a < k)
        → accepts (automaton_of k symbol e Q) w ≡ final e (state_after symbol e start w)
    unfolding accepts holds
    accepts-run l s w h =
        let t = reached-run w 0 l h in
        ap (holds (automaton_of k symbol e Q).accepting) t.1 ∙ accepting-is t.0 t.2 ∙ ap (final e) (t.3 ∙ ap (λ (x : State). state_after symbol e x w) s)

  -- the list of the states in the order of first reaching
  pub states-closed : length (states k symbol e) ≤ 32 → Closed (states k symbol e)
  unfolding states
  states-closed l j h y m =
      explore-done same_state same-sound same_whole (successors k symbol e) start 32 0 (start ∷ []) (λ i n. absurd (omega arith)) l j h h y m

  pub states-start : (0 < length (states k symbol e)) × (get_or (states k symbol e) 0 start ≡ start)
  unfolding states
  states-start =
      let x = explore_extends same_state same-sound same_whole (successors k symbol e) start 32 0 (start ∷ []) in
      (subst (λ (Q : List State). 0 < length Q) (sym x.1) (omega arith), ap (λ (Q : List State). get_or Q 0 start) x.1)

  -- the automaton of all states accepts what ends in a final one
  pub accepts-states : length (states k symbol e) ≤ 32 → (w : List ℕ) → ((a : ℕ) → In a w → a < k)
      → accepts (automaton_of k symbol e (states k symbol e)) w ≡ final e (state_after symbol e start w)
  accepts-states l = accepts-run (states k symbol e) (states-closed l) states-start.0 states-start.1
