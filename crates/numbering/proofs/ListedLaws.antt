-- The list of states that the words stand for. Assumes nothing.
use mathlib.Core.Path.{◌≡◌, refl, sym, ap, ap₂, ◌∙◌}
use mathlib.Core.Bool.{Bool, true, false, cond, not, ◌||◌}
use mathlib.Core.List.{List, [], ◌∷◌, ◌++◌, map, map-append}
use Prim.Native.Nat.{ℕ, zero, suc, ◌+◌, ◌-◌, ◌≤◌, ◌<◌}
use native.Mathlib.Omega.{arith}
use lib.Bits.{bit_and}
use lib.Dec.{eqb}
use lib.ListN.{length, get_or, set, take, drop, length-append, length-map, length-take, length-drop}
use lib.Seq.{get_or-set_same, get_or-set_other}
use Rattle.std.proofs.Common.{Some, None}
use Rattle.std.specs.List.{position, position_or_len, list_any, slice_range}
use Rattle.std.proofs.lemmas.Bool.Decides.{nat_tests}
use Rattle.std.proofs.lemmas.List.{get_or-take}
use Rattle.std.proofs.lemmas.List.Sums.{prefix_len-le-length}
use Rattle.std.proofs.lemmas.Option.{cond_some}
use borrow.Author.Tests.{ltb-false}
use Rattle.model.specs.Lists.{any, from, upto}
use Rattle.model.specs.Words.{bits, union}
use Rattle.laws.proofs.ListLaws.{of-upto, from-length, from-get_or, from-append, map_cong}
use Rattle.model.specs.PatternStates.{State, start, passed}
use Rattle.model.specs.Numbering.{number_in, reach}
use Rattle.model.specs.Compile.{same_state}
use Rattle.numbering.specs.Exploring.{state_at, listed, ahead_in, advance_in}

pub listed-length : (sets : List ℕ) (n : ℕ) → length (listed sets n) ≡ n
unfolding listed upto
listed-length sets n = length-map (from 0 n) (state_at sets) ∙ from-length 0 n

pub listed_at : (sets : List ℕ) (n i : ℕ) → i < n → get_or (listed sets n) i start ≡ state_at sets i
unfolding listed upto
listed_at sets n i l = let z : 0 + i ≡ i = omega arith in from-get_or (state_at sets) 0 n i start l ∙ ap (state_at sets) z

pub upto-more : {B : Type 0} (f : ℕ → B) (n : ℕ) → map f (upto (n + 1)) ≡ map f (upto n) ++ (f n ∷ [])
unfolding upto from
upto-more f n =
    let z : 0 + n ≡ n = omega arith in
    ap (map f) (sym (from-append 0 n 1)) ∙ map-append f (from 0 n) (from (0 + n) 1) ∙ ap (λ (x : ℕ). map f (from 0 n) ++ (f x ∷ [])) z

state-set : (sets : List ℕ) (m w i : ℕ) → i < m → state_at (set sets m w) i ≡ state_at sets i
unfolding state_at
state-set sets m w zero l = refl
state-set sets m w (suc i) l = ap passed (get_or-set_other sets m (suc i) w 0 (λ e. omega arith))

-- a word written past the listed states changes none of them
pub listed-set : (sets : List ℕ) (n w : ℕ) → listed (set sets n w) n ≡ listed sets n
unfolding listed
listed-set sets n w = map_cong (state_at (set sets n w)) (state_at sets) (upto n) (λ j m. state-set sets n w j (of-upto n m))

state-new : (sets : List ℕ) (n w : ℕ) → 1 ≤ n → n < length sets → state_at (set sets n w) n ≡ passed w
unfolding state_at
state-new sets zero w l h = absurd (omega arith)
state-new sets (suc n) w l h = ap passed (get_or-set_same sets (suc n) w 0 h)

-- ---- the states but the start, by their sets

words-listed : (f : ℕ → State) (i : ℕ) (ws : List ℕ) → ((j : ℕ) → j < length ws → f (i + j) ≡ passed (get_or ws j 0)) → map f (from i (length ws)) ≡ map passed ws
unfolding from
words-listed f i [] h = refl
words-listed f i (w ∷ ws) h =
    let z : i + 0 ≡ i = omega arith in
    let s : (j : ℕ) → suc i + j ≡ i + suc j = λ j. omega arith in
    ap₂ (λ (x : State) (Q : List State). x ∷ Q) (ap f (sym z) ∙ h 0 (omega arith)) (words-listed f (suc i) ws (λ j l. ap f (s j) ∙ h (suc j) (omega arith)))

listed-words : (sets : List ℕ) (n : ℕ) → 1 ≤ n → n ≤ length sets → listed sets n ≡ start ∷ map passed (slice_range sets 1 n)
unfolding listed upto from state_at
listed-words [] zero l h = absurd (omega arith)
listed-words [] (suc n) l h = absurd (omega arith)
listed-words (x ∷ ws) zero l h = absurd (omega arith)
listed-words (x ∷ ws) (suc n) l h =
    let z : suc n - 1 ≡ n = omega arith in
    let s : length (take n ws) ≡ n = length-take n ws ∙ omega arith in
    let one : (j : ℕ) → 1 + j ≡ suc j = λ j. omega arith in
    ap (λ (Q : List State). start ∷ Q)
    (ap (λ (m : ℕ). map (state_at (x ∷ ws)) (from 1 m)) (sym s)
    ∙ words-listed (state_at (x ∷ ws)) 1 (take n ws) (λ j g. ap (state_at (x ∷ ws)) (one j) ∙ ap passed (sym (get_or-take n ws j 0 (omega arith))))
    ∙ ap (λ (m : ℕ). map passed (take m ws)) (sym z))

-- one number is the other, whichever comes first
eqb-turn : (w v : ℕ) → eqb w v ≡ eqb v w
eqb-turn w v = grind (arith, nat_tests)

any-words : (ws : List ℕ) (w : ℕ) → any (same_state (passed w)) (map passed ws) ≡ list_any (λ v. eqb v w) ws
unfolding any same_state
any-words [] w = refl
any-words (v ∷ ws) w = ap₂ ◌||◌ (eqb-turn w v) (any-words ws w)

number-words : (ws : List ℕ) (w : ℕ) → number_in same_state (map passed ws) (passed w) ≡ position_or_len (λ v. eqb v w) ws
unfolding number_in same_state
number-words [] w = refl
number-words (v ∷ ws) w = rw (eqb-turn w v) (go (eqb v w) (number-words ws w))
  where
    go : (t : Bool) → number_in same_state (map passed ws) (passed w) ≡ position_or_len (λ v. eqb v w) ws
        → cond t 0 (suc (number_in same_state (map passed ws) (passed w))) ≡ cond (not t) (1 + position_or_len (λ v. eqb v w) ws) 0
    go true e = refl
    go false e = omega arith

-- ---- a state that was reached

any-listed : (sets : List ℕ) (n w : ℕ) → 1 ≤ n → n ≤ length sets → any (same_state (passed w)) (listed sets n) ≡ list_any (λ v. eqb v w) (slice_range sets 1 n)
unfolding any same_state
any-listed sets n w o h = ap (any (same_state (passed w))) (listed-words sets n o h) ∙ any-words (slice_range sets 1 n) w

pub add-old : (sets : List ℕ) (n w : ℕ) → 1 ≤ n → n ≤ length sets → list_any (λ v. eqb v w) (slice_range sets 1 n) ≡ true
    → reach same_state (listed sets n) (passed w) ≡ listed sets n
unfolding reach
add-old sets n w o h e = rw (any-listed sets n w o h, e)

reach-new : (sets : List ℕ) (n w : ℕ) → 1 ≤ n → n ≤ length sets → list_any (λ v. eqb v w) (slice_range sets 1 n) ≡ false
    → reach same_state (listed sets n) (passed w) ≡ listed sets n ++ (passed w ∷ [])
unfolding reach
reach-new sets n w o h e = rw (any-listed sets n w o h, e)

pub add-full : (sets : List ℕ) (n w : ℕ) → 1 ≤ n → n ≤ length sets → list_any (λ v. eqb v w) (slice_range sets 1 n) ≡ false → n ≡ 32
    → 32 < length (reach same_state (listed sets n) (passed w))
add-full sets n w o h e full =
    omega (arith, ap length (reach-new sets n w o h e), length-append (listed sets n) (passed w ∷ []), listed-length sets n)

more : (sets : List ℕ) (n w : ℕ) → listed (set sets n w) (n + 1) ≡ listed (set sets n w) n ++ (state_at (set sets n w) n ∷ [])
unfolding listed
more sets n w = upto-more (state_at (set sets n w)) n

pub add-new : (sets : List ℕ) (n w : ℕ) → 1 ≤ n → n < length sets → list_any (λ v. eqb v w) (slice_range sets 1 n) ≡ false
    → reach same_state (listed sets n) (passed w) ≡ listed (set sets n w) (n + 1)
add-new sets n w o h e =
    reach-new sets n w o (omega arith) e
    ∙ sym (more sets n w ∙ ap₂ (λ (Q : List State) (x : State). Q ++ (x ∷ [])) (listed-set sets n w) (state-new sets n w o h))

-- ---- the number of a state, by where its set is found

number-listed : (sets : List ℕ) (w : ℕ) → 1 ≤ length sets
    → number_in same_state (listed sets (length sets)) (passed w) ≡ suc (position_or_len (λ v. eqb v w) (slice_range sets 1 (length sets)))
unfolding number_in same_state
number-listed sets w l = rw (listed-words sets (length sets) l (omega arith), number-words (slice_range sets 1 (length sets)) w)

pub find_at : (sets : List ℕ) (w i : ℕ) → 1 ≤ length sets → position (λ v. eqb v w) (slice_range sets 1 (length sets)) ≡ Some i
    → i + 1 ≡ number_in same_state (listed sets (length sets)) (passed w)
find_at sets w i l e = let h = cond_some _ _ _ e in omega (arith, h.1, number-listed sets w l)

pub find_none : (sets : List ℕ) (w : ℕ) → 1 ≤ length sets → position (λ v. eqb v w) (slice_range sets 1 (length sets)) ≡ None
    → length sets ≡ number_in same_state (listed sets (length sets)) (passed w)
find_none sets w l e =
    let h = ltb-false _ _ (past _ _ e) in
    let whole = length-take (length sets - 1) (drop 1 sets) in
    omega (arith, h, whole, number-listed sets w l, prefix_len-le-length (λ v. not (eqb v w)) (slice_range sets 1 (length sets)), length-drop 1 sets)
  where
    past : (t : Bool) (x : ℕ) → cond t (Some x) None ≡ None → t ≡ false
    past true x e = cc
    past false x e = refl

-- ---- the states numbered so far, as a list of their own

state-taken : (sets : List ℕ) (n i : ℕ) → i < n → state_at (take n sets) i ≡ state_at sets i
unfolding state_at
state-taken sets n zero l = refl
state-taken sets n (suc i) l = ap passed (get_or-take n sets (suc i) 0 l)

pub ahead-taken : (firsts : ℕ) (F sets T : List ℕ) (n i r : ℕ) → T ≡ take n sets → i < n → r ≡ ahead_in firsts F (state_at T i)
    → r ≡ ahead_in firsts F (state_at sets i)
ahead-taken firsts F sets T n i r e l h = h ∙ ap (ahead_in firsts F) (ap (λ (S : List ℕ). state_at S i) e ∙ state-taken sets n i l)

pub listed-taken : (sets : List ℕ) (n : ℕ) → listed (take n sets) n ≡ listed sets n
unfolding listed
listed-taken sets n = map_cong (state_at (take n sets)) (state_at sets) (upto n) (λ j m. state-taken sets n j (of-upto n m))

-- ---- the letters that may come in state i

pub ahead-start : (firsts : ℕ) (F sets : List ℕ) (i : ℕ) → i ≡ 0 → firsts ≡ ahead_in firsts F (state_at sets i)
unfolding ahead_in state_at
ahead-start firsts F sets i e = rw e

pub ahead-set : (firsts : ℕ) (F sets : List ℕ) (i r : ℕ) → (i ≡ 0 → ⊥) → r ≡ union (map (λ (p : ℕ). get_or F p 0) (bits (get_or sets i 0)))
    → r ≡ ahead_in firsts F (state_at sets i)
unfolding ahead_in state_at
ahead-set firsts F sets zero r n e = absurd (n refl)
ahead-set firsts F sets (suc i) r n e = e

pub move-right : (places : List ℕ) (firsts : ℕ) (F sets : List ℕ) (n i a x r : ℕ) → x ≡ ahead_in firsts F (state_at sets i)
    → r ≡ number_in same_state (listed sets n) (passed (bit_and x (get_or places a 0)))
    → r ≡ number_in same_state (listed sets n) (advance_in places firsts F (state_at sets i) a)
unfolding advance_in
move-right places firsts F sets n i a x r p e = e ∙ ap (λ (u : ℕ). number_in same_state (listed sets n) (passed (bit_and u (get_or places a 0)))) p

-- a number is at most how many states there are, so a byte holds it
number_le : {A : Type 0} (same : A → A → Bool) (Q : List A) (x : A) → number_in same Q x ≤ length Q
unfolding number_in
number_le same [] x = omega arith
number_le same (y ∷ Q) x = go (same x y) (number_le same Q x)
  where
    go : (t : Bool) → number_in same Q x ≤ length Q → cond t 0 (suc (number_in same Q x)) ≤ length (y ∷ Q)
    go true l = omega arith
    go false l = omega arith

pub number-most : (sets : List ℕ) (n : ℕ) (x : State) (r : ℕ) → r ≡ number_in same_state (listed sets n) x → r ≤ n
number-most sets n x r e =
    let a = number_le same_state (listed sets n) x in
    let b = listed-length sets n in
    omega arith
