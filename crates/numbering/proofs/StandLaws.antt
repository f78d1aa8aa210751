-- The words hold the definition's list of states, turn by turn. Assumes nothing.
use mathlib.Core.Path.{◌≡◌, refl, sym, ap, ◌∙◌}
use mathlib.Core.Bool.{Bool, true, false, cond}
use mathlib.Core.List.{List, [], ◌∷◌, ◌++◌, map, map-append}
use Prim.Native.Nat.{ℕ, zero, suc, ◌+◌, ◌-◌, ◌≤◌, ◌<◌}
use native.Mathlib.Omega.{arith}
use lib.Bits.{bit_and}
use lib.Dec.{ltb}
use lib.ListN.{length, get_or, take, length-append, length-take}
use borrow.Author.Tests.{lt-ltb, le-ltb, ltb-false}
use Rattle.model.specs.Lists.{from, upto}
use Rattle.model.specs.PatternStates.{State, start, passed}
use Rattle.model.specs.Numbering.{reach, reach_all, explore}
use Rattle.model.specs.Compile.{same_state}
use Rattle.laws.proofs.ListLaws.{from-append}
use Rattle.patterns.proofs.NumberingLaws.{reach_all_extends}
use Rattle.patterns.proofs.AutomatonLaws.{same-sound, same_whole}
use Rattle.numbering.specs.Exploring.{state_at, listed, ahead_in, advance_in, successors_in, visited, states_in}
use Rattle.numbering.proofs.ListedLaws.{listed-length, listed_at, listed-taken, upto-more}

reach_all-longer : (Q xs : List State) → length Q ≤ length (reach_all same_state Q xs)
reach_all-longer Q xs =
    let x = reach_all_extends same_state same-sound same_whole Q xs in
    omega (arith, ap length x.1, length-append Q x.0)

reach_all-append : (Q xs ys : List State) → reach_all same_state Q (xs ++ ys) ≡ reach_all same_state (reach_all same_state Q xs) ys
unfolding reach_all
reach_all-append Q [] ys = refl
reach_all-append Q (x ∷ xs) ys = reach_all-append (reach same_state Q x) xs ys

-- ---- a list of states that stands in the words

module _ (sets : List ℕ) (n : ℕ) (Q : List State) (stands : Q ≡ listed sets n) where
  pub stands-length : length Q ≡ n
  stands-length = ap length stands ∙ listed-length sets n

  pub stands_at : (i : ℕ) → i < n → get_or Q i start ≡ state_at sets i
  stands_at i h = ap (λ (R : List State). get_or R i start) stands ∙ listed_at sets n i h

  -- the states' sets as a list of their own
  pub stands-taken : (T : List ℕ) → n ≤ length sets → T ≡ take n sets → Q ≡ listed T (length T)
  stands-taken T h e =
      let size : length T ≡ n = ap length e ∙ length-take n sets ∙ omega arith in
      stands ∙ sym (ap (listed T) size ∙ ap (λ (S : List ℕ). listed S n) e ∙ listed-taken sets n)

-- ---- the symbols below a, tried upwards where the letters `here` may come

unfoldable pub tried : List ℕ → ℕ → ℕ → List State
tried places here a = map (λ b. passed (bit_and here (get_or places b 0))) (upto a)

module _ (places : List ℕ) (here : ℕ) (Q : List State) where
  pub tried_start : Q ≡ reach_all same_state Q (tried places here 0)
  unfolding tried upto from reach_all
  tried_start = refl

  module _ (a : ℕ) (L : List State) (now : L ≡ reach_all same_state Q (tried places here a)) where
    turn : reach same_state L (passed (bit_and here (get_or places a 0))) ≡ reach_all same_state Q (tried places here (a + 1))
    unfolding tried reach_all
    turn =
        let next : ℕ → State = λ b. passed (bit_and here (get_or places b 0)) in
        ap (λ (R : List State). reach same_state R (next a)) now
        ∙ sym (ap (reach_all same_state Q) (upto-more next a) ∙ reach_all-append Q (map next (upto a)) (next a ∷ []))

    pub tried_step : (M : List State) → reach same_state L (passed (bit_and here (get_or places a 0))) ≡ M → M ≡ reach_all same_state Q (tried places here (a + 1))
    tried_step M e = sym e ∙ turn

    pub tried_over : (k : ℕ) → a < k → 32 < length (reach same_state L (passed (bit_and here (get_or places a 0))))
        → 32 < length (reach_all same_state Q (tried places here k))
    unfolding tried upto
    tried_over k l h =
        let next : ℕ → State = λ b. passed (bit_and here (get_or places b 0)) in
        let z : a + 1 + (k - (a + 1)) ≡ k = omega arith in
        let parts : map next (from 0 k) ≡ map next (from 0 (a + 1)) ++ map next (from (0 + (a + 1)) (k - (a + 1))) =
        ap (λ (m : ℕ). map next (from 0 m)) (sym z)
        ∙ ap (map next) (sym (from-append 0 (a + 1) (k - (a + 1))))
        ∙ map-append next (from 0 (a + 1)) (from (0 + (a + 1)) (k - (a + 1))) in
        let whole = ap (reach_all same_state Q) parts ∙ reach_all-append Q (map next (from 0 (a + 1))) (map next (from (0 + (a + 1)) (k - (a + 1)))) in
        omega (arith, ap length turn, ap length whole, reach_all-longer (reach_all same_state Q (map next (from 0 (a + 1)))) (map next (from (0 + (a + 1)) (k - (a + 1)))))

module _ (places : List ℕ) (firsts : ℕ) (F : List ℕ) (k : ℕ) where
  pub successors-tried : (here : ℕ) (x : State) → here ≡ ahead_in firsts F x → successors_in k places firsts F x ≡ tried places here k
  unfolding tried successors_in advance_in
  successors-tried here x e = ap (λ (v : ℕ). map (λ b. passed (bit_and v (get_or places b 0))) (upto k)) (sym e)

  -- ---- one state

  pub visit-past : (sets : List ℕ) (n i : ℕ) → n ≤ i → visited k places firsts F (listed sets n) i ≡ listed sets n
  unfolding visited
  visit-past sets n i l = rw (le-ltb i (length (listed sets n)) (omega (arith, listed-length sets n)))

  pub visit-taken : (sets : List ℕ) (n i : ℕ) → i < n
      → visited k places firsts F (listed sets n) i ≡ reach_all same_state (listed sets n) (successors_in k places firsts F (state_at sets i))
  unfolding visited
  visit-taken sets n i l = rw (lt-ltb i (length (listed sets n)) (omega (arith, listed-length sets n)), listed_at sets n i l)

  -- ---- all states

  abbrev pub explored : ℕ → ℕ → List State → List State
  explored m i Q = explore same_state (successors_in k places firsts F) start m i Q

  explore-stop : (m i : ℕ) (Q : List State) → length Q ≤ i → explored m i Q ≡ Q
  unfolding explore
  explore-stop zero i Q l = refl
  explore-stop (suc m) i Q l = rw (le-ltb i (length Q) l)

  explore-visit : (m i : ℕ) (Q : List State) → explored (suc m) i Q ≡ explored m (suc i) (visited k places firsts F Q i)
  unfolding explore visited
  explore-visit m i Q = go (ltb i (length Q)) refl
    where
      R : List State
      R = reach_all same_state Q (successors_in k places firsts F (get_or Q i start))

      go : (t : Bool) → ltb i (length Q) ≡ t → cond t (explored m (suc i) R) Q ≡ explored m (suc i) (cond t R Q)
      go true e = refl
      go false e = let l = ltb-false i (length Q) e in sym (explore-stop m (suc i) Q (omega arith))

  visited-longer : (Q : List State) (i : ℕ) → length Q ≤ length (visited k places firsts F Q i)
  unfolding visited
  visited-longer Q i = go (ltb i (length Q))
    where
      go : (t : Bool) → length Q ≤ length (cond t (reach_all same_state Q (successors_in k places firsts F (get_or Q i start))) Q)
      go true = reach_all-longer Q (successors_in k places firsts F (get_or Q i start))
      go false = omega arith

  explore-longer : (m i : ℕ) (Q : List State) → length Q ≤ length (explored m i Q)
  unfolding explore
  explore-longer zero i Q = omega arith
  explore-longer (suc m) i Q =
      omega (arith, ap length (explore-visit m i Q), explore-longer m (suc i) (visited k places firsts F Q i), visited-longer Q i)

  pub explored_start : (sets : List ℕ) (n : ℕ) → n ≡ 1 → explored 32 0 (listed sets n) ≡ states_in k places firsts F
  unfolding states_in listed upto from state_at
  explored_start sets n e = rw e

  module _ (i : ℕ) (L : List State) (l : i < 32) (rest : explored (32 - i) i L ≡ states_in k places firsts F) where
    turn-state : explored (32 - (i + 1)) (i + 1) (visited k places firsts F L i) ≡ states_in k places firsts F
    turn-state =
        let a : 32 - i ≡ suc (32 - (i + 1)) = omega arith in
        let b : suc i ≡ i + 1 = omega arith in
        ap (λ (j : ℕ). explored (32 - (i + 1)) j (visited k places firsts F L i)) (sym b)
        ∙ sym (explore-visit (32 - (i + 1)) i L)
        ∙ ap (λ (m : ℕ). explored m i L) (sym a)
        ∙ rest

    pub explored_step : (M : List State) → visited k places firsts F L i ≡ M → explored (32 - (i + 1)) (i + 1) M ≡ states_in k places firsts F
    explored_step M e = ap (explored (32 - (i + 1)) (i + 1)) (sym e) ∙ turn-state

    pub explored_over : 32 < length (visited k places firsts F L i) → 32 < length (states_in k places firsts F)
    explored_over h = omega (arith, ap length turn-state, explore-longer (32 - (i + 1)) (i + 1) (visited k places firsts F L i))

  pub explored_end : (i : ℕ) (L : List State) → i ≡ 32 → explored (32 - i) i L ≡ states_in k places firsts F → states_in k places firsts F ≡ L
  unfolding explore
  explored_end i L e rest = let z : 32 - i ≡ 0 = omega arith in sym (ap (λ (m : ℕ). explored m i L) (sym z) ∙ rest)
