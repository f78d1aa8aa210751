-- Of each version some automaton accepts just the durations, so that its Regular is a constraint of which the contract of `narrow` speaks. Assumes nothing.
use Rattle.std.specs.Prelude.{Option as Answer}
use mathlib.Core.Path.{◌≡◌, refl, ap, fun_ext, ◌∙◌}
use mathlib.Core.Bool.{Bool, true, false, cond, not, ◌&&◌, ◌||◌}
use mathlib.Core.List.{List, [], ◌∷◌, ◌++◌}
use Prim.Native.Nat.{ℕ, zero, suc, ◌+◌, ◌-◌, ◌^◌, ◌≤◌}
use native.Mathlib.Omega.{arith}
use lib.Bits.{bit_and}
use lib.Dec.{eqb, leb, ltb}
use lib.ListN.{length, get_or, take, drop, replicate}
use Rattle.std.proofs.Math.Dec.{leb-suc-suc, eqb-suc-zero, eqb-suc-suc, eqb-zero-suc}
use Rattle.std.proofs.lemmas.Bool.{eqb-true, ltb-true, ltb-false, lt-ltb, le-ltb, le-leb, lt-leb, leb-true}
use Rattle.std.proofs.Math.Option.{Option, none, some, bind}
use Rattle.model.specs.Lists.{any, all, given, from, upto}
use Rattle.model.specs.Words.{bit}
use Rattle.model.specs.Constraints.{Automaton, Choice, regular, variables, move, reached, holds, accepts, meets}
use Rattle.laws.proofs.WordLaws.{pow-bit}
use Rattle.laws.proofs.ShiftLaws.{bit_mask, without-bit}
use Rattle.rows.specs.Rows.{alone}
use Rattle.inplace.specs.declared.Changed.{Changed}
use Rattle.inplace.specs.InPlace.{InPlace}
use Rattle.duration.specs.Durations.{is_digit, digits, point_at, is_duration, DurationStep}

-- ---- rows of an automaton

-- the row that goes to state p by each digit, and then goes on so
abbrev pub by_digit : ℕ → List (Option ℕ) → List (Option ℕ)
by_digit p more = replicate 10 (some p) ++ more

digit-row : (p a : ℕ) → get_or (by_digit p []) a none ≡ given (ltb a 10) p
unfolding given
digit-row p a = go 10 a
  where
    go : (n a : ℕ) → get_or (replicate n (some p) ++ []) a none ≡ given (ltb a n) p
    go zero a = rw (le-ltb a 0 (omega arith)) refl
    go (suc n) zero = rw (lt-ltb 0 (suc n) (omega arith)) refl
    go (suc n) (suc a) = rw (leb-suc-suc (suc a) n) (go n a)

point-row : (p q a : ℕ) → get_or (by_digit p (some q ∷ [])) a none ≡ cond (ltb a 10) (some p) (given (eqb a 10) q)
unfolding given
point-row p q a = go 10 a
  where
    go : (n a : ℕ) → get_or (replicate n (some p) ++ (some q ∷ [])) a none ≡ cond (ltb a n) (some p) (given (eqb a n) q)
    go zero zero = refl
    go zero (suc a) = rw (le-ltb (suc a) 0 (omega arith), eqb-suc-zero a) refl
    go (suc n) zero = rw (lt-ltb 0 (suc n) (omega arith)) refl
    go (suc n) (suc a) = rw (leb-suc-suc (suc a) n, eqb-suc-suc a n) (go n a)

-- ---- versions 1 and 2

-- a row for each of n states from q on, by a digit to the next state
unfoldable pub counting : ℕ → ℕ → List (List (Option ℕ))
counting q zero = []
counting q (suc n) = by_digit (suc q) [] ∷ counting (suc q) n

-- the state is how many digits were read, of which 1 to 20 are accepted
abbrev pub whole-automaton : Automaton
whole-automaton = record { accepting = bit_and (2 ^ 21 - 1) (2 ^ 64 - 1 - 2 ^ 0); moves = counting 0 20 }

counting-row : (q n i : ℕ) → get_or (counting q n) i [] ≡ cond (ltb i n) (by_digit (suc (q + i)) []) []
unfolding counting
counting-row q zero i = rw (le-ltb i 0 (omega arith)) refl
counting-row q (suc n) zero = let e : q + 0 ≡ q = omega arith in rw (lt-ltb 0 (suc n) (omega arith), e) refl
counting-row q (suc n) (suc i) =
    let e : suc q + i ≡ q + suc i = omega arith in
    rw (leb-suc-suc (suc i) n) (counting-row (suc q) n i ∙ ap (λ (k : ℕ). cond (ltb i n) (by_digit (suc k) []) []) e)

whole-move : (q a : ℕ) → move whole-automaton q a ≡ given (ltb q 20 && ltb a 10) (suc q)
unfolding move given
whole-move q a =
    let e : 0 + q ≡ q = omega arith in
    ap (λ (r : List (Option ℕ)). get_or r a none) (counting-row 0 20 q ∙ ap (λ (k : ℕ). cond (ltb q 20) (by_digit (suc k) []) []) e) ∙ go (ltb q 20)
  where
    go : (t : Bool) → get_or (cond t (by_digit (suc q) []) []) a none ≡ given (t && ltb a 10) (suc q)
    go true = digit-row (suc q) a
    go false = refl

whole-reached : (w : List ℕ) (q : ℕ) → q ≤ 20 → reached whole-automaton q w ≡ given (all is_digit w && leb (q + length w) 20) (q + length w)
unfolding reached all is_digit given bind
whole-reached [] q h = let e : q + 0 ≡ q = omega arith in rw (e, le-leb q 20 h) refl
whole-reached (a ∷ w) q h = rw (whole-move q a) (go (whole-reached w (suc q)) (ltb q 20) refl (ltb a 10))
  where
    go : (suc q ≤ 20 → reached whole-automaton (suc q) w ≡ given (all is_digit w && leb (suc q + length w) 20) (suc q + length w))
        → (t : Bool) → ltb q 20 ≡ t → (d : Bool) → bind (given (t && d) (suc q)) (λ p. reached whole-automaton p w)
        ≡ given ((d && all is_digit w) && leb (q + suc (length w)) 20) (q + suc (length w))
    go next true e true =
        let l = ltb-true q 20 e in
        let k : suc q + length w ≡ q + suc (length w) = omega arith in
        next (omega arith) ∙ ap (λ (n : ℕ). given (all is_digit w && leb n 20) n) k
    go next false e true = let l = ltb-false q 20 e in rw (lt-leb (q + suc (length w)) 20 (omega arith)) (gone (all is_digit w))
      where
        gone : (b : Bool) → none ≡ given (b && false) (q + suc (length w))
        gone true = refl
        gone false = refl
    go next true e false = refl
    go next false e false = refl

-- its end: the number of digits, from 1 to 20
whole-end : (n : ℕ) → n ≤ 20 → bit whole-automaton.accepting n ≡ leb 1 n
whole-end n h = without-bit (2 ^ 21 - 1) (2 ^ 0) n (omega arith) (omega arith) ∙ rw (bit_mask 21 n, lt-ltb n 21 (omega arith), pow-bit 0 n) (go n)
  where
    go : (n : ℕ) → not (eqb 0 n) ≡ leb 1 n
    go zero = refl
    go (suc n) = rw (eqb-zero-suc n, le-leb 1 (suc n) (omega arith)) refl

pub whole-accepts : (w : List ℕ) → accepts whole-automaton w ≡ (digits w && leb (length w) 20)
unfolding accepts holds digits given
whole-accepts w = let e : 0 + length w ≡ length w = omega arith in rw (whole-reached w 0 (omega arith), e) (go (all is_digit w) (leb (length w) 20) refl)
  where
    none_left : (t : Bool) → false ≡ (t && false)
    none_left true = refl
    none_left false = refl

    none-right : (t : Bool) → false ≡ ((t && false) && true)
    none-right true = refl
    none-right false = refl

    go : (a b : Bool) → leb (length w) 20 ≡ b → holds whole-automaton.accepting (given (a && b) (length w)) ≡ ((leb 1 (length w) && a) && b)
    go true true e = whole-end (length w) (leb-true (length w) 20 e) ∙ plain (leb 1 (length w))
      where
        plain : (t : Bool) → t ≡ ((t && true) && true)
        plain true = refl
        plain false = refl
    go true false e = none_left (leb 1 (length w) && true)
    go false true e = none-right (leb 1 (length w))
    go false false e = none_left (leb 1 (length w) && false)

-- ---- versions from 3 on

-- before the first digit, after a digit of the whole part, after the point, and after a digit behind it
abbrev pub parted-automaton : Automaton
parted-automaton = record { accepting = 10; moves = by_digit 1 [] ∷ by_digit 1 (some 2 ∷ []) ∷ by_digit 3 [] ∷ by_digit 3 [] ∷ [] }

-- the strings that it accepts from state q on
ends : ℕ → List ℕ → Bool
ends q w = holds 10 (reached parted-automaton q w)

any_shift : (p : ℕ → Bool) (i n : ℕ) → any p (from (suc i) n) ≡ any (λ k. p (suc k)) (from i n)
unfolding any from
any_shift p i zero = refl
any_shift p i (suc n) = ap (λ (b : Bool). p (suc i) || b) (any_shift p (suc i) n)

any-and : (b : Bool) (p : ℕ → Bool) (xs : List ℕ) → any (λ k. b && p k) xs ≡ (b && any p xs)
unfolding any
any-and true p [] = refl
any-and false p [] = refl
any-and true p (x ∷ xs) = ap (λ (b : Bool). p x || b) (any-and true p xs)
any-and false p (x ∷ xs) = any-and false p xs

-- the string is digits or nothing, symbol 10 after the first i of them, and digits
middle : List ℕ → ℕ → Bool
middle w i = all is_digit (take i w) && eqb (get_or w i 0) 10 && digits (drop (i + 1) w)

ends-fraction : (w : List ℕ) → ends 3 w ≡ all is_digit w
unfolding ends reached move holds bit all is_digit given bind
ends-fraction [] = refl
ends-fraction (a ∷ w) = rw (digit-row 3 a) (go (ends-fraction w) (ltb a 10))
  where
    go : ends 3 w ≡ all is_digit w → (d : Bool) → holds 10 (bind (given d 3) (λ p. reached parted-automaton p w)) ≡ (d && all is_digit w)
    go e true = e
    go e false = refl

ends-point : (w : List ℕ) → ends 2 w ≡ digits w
unfolding ends reached move holds bit all digits is_digit given bind
ends-point [] = refl
ends-point (a ∷ w) = rw (digit-row 3 a, le-leb 1 (suc (length w)) (omega arith)) (go (ltb a 10))
  where
    go : (d : Bool) → holds 10 (bind (given d 3) (λ p. reached parted-automaton p w)) ≡ (d && all is_digit w)
    go true = ends-fraction w
    go false = refl

-- the point of a longer string
middle-next : (a : ℕ) (w : List ℕ) (k : ℕ) → middle (a ∷ w) (suc k) ≡ (ltb a 10 && middle w k)
unfolding middle all is_digit
middle-next a w k = let e : suc k + 1 ≡ suc (k + 1) = omega arith in rw e (go (ltb a 10) (all is_digit (take k w)) (eqb (get_or w k 0) 10) (digits (drop (k + 1) w)))
  where
    go : (d p q r : Bool) → ((d && p) && q && r) ≡ (d && (p && q && r))
    go true p q r = refl
    go false p q r = refl

middles : (a : ℕ) (w : List ℕ) → any (middle (a ∷ w)) (from 1 (length w)) ≡ (ltb a 10 && any (middle w) (upto (length w)))
unfolding upto
middles a w =
    any_shift (middle (a ∷ w)) 0 (length w)
    ∙ ap (λ (f : ℕ → Bool). any f (from 0 (length w))) (fun_ext (middle-next a w))
    ∙ any-and (ltb a 10) (middle w) (from 0 (length w))

ends-whole : (w : List ℕ) → ends 1 w ≡ (all is_digit w || any (middle w) (upto (length w)))
unfolding ends reached move holds bit given bind all any is_digit upto from middle
ends-whole [] = refl
ends-whole (a ∷ w) = rw (point-row 1 2 a, middles a w) (go (ends-whole w) (ltb a 10) refl (eqb a 10) refl)
  where
    go : ends 1 w ≡ (all is_digit w || any (middle w) (upto (length w))) → (d : Bool) → ltb a 10 ≡ d → (e : Bool) → eqb a 10 ≡ e
        → holds 10 (bind (cond d (some 1) (given e 2)) (λ p. reached parted-automaton p w))
        ≡ ((d && all is_digit w) || ((e && digits w) || (d && any (middle w) (upto (length w)))))
    go s true p true q = let l = ltb-true a 10 p in let m = eqb-true a 10 q in absurd (omega arith)
    go s true p false q = s
    go s false p true q = ends-point w ∙ or_none (digits w)
      where
        or_none : (b : Bool) → b ≡ (b || false)
        or_none true = refl
        or_none false = refl
    go s false p false q = refl

-- the string is digits, the point after the first of them is in the rest
point-next : (a : ℕ) (w : List ℕ) (k : ℕ) → point_at (a ∷ w) (suc k) ≡ (ltb a 10 && middle w k)
unfolding middle point_at digits all is_digit
point-next a w k =
    let e : suc k + 1 ≡ suc (k + 1) = omega arith in
    rw (e, le-leb 1 (suc (length (take k w))) (omega arith)) (go (ltb a 10) (all is_digit (take k w)) (eqb (get_or w k 0) 10) (leb 1 (length (drop (k + 1) w)) && all is_digit (drop (k + 1) w)))
  where
    go : (d p q r : Bool) → ((d && p) && q && r) ≡ (d && (p && q && r))
    go true p q r = refl
    go false p q r = refl

points : (a : ℕ) (w : List ℕ) → any (point_at (a ∷ w)) (from 1 (length w)) ≡ (ltb a 10 && any (middle w) (upto (length w)))
unfolding upto
points a w =
    any_shift (point_at (a ∷ w)) 0 (length w)
    ∙ ap (λ (f : ℕ → Bool). any f (from 0 (length w))) (fun_ext (point-next a w))
    ∙ any-and (ltb a 10) (middle w) (from 0 (length w))

pub parted-accepts : (w : List ℕ) → accepts parted-automaton w ≡ (digits w || any (point_at w) (upto (length w)))
unfolding ends accepts reached move holds bit given bind all any digits is_digit point_at upto from
parted-accepts [] = refl
parted-accepts (a ∷ w) = rw (digit-row 1 a, points a w, le-leb 1 (suc (length w)) (omega arith)) (go (ltb a 10))
  where
    go : (d : Bool) → holds 10 (bind (given d 1) (λ p. reached parted-automaton p w)) ≡ ((d && all is_digit w) || (d && any (middle w) (upto (length w))))
    go true = ends-whole w
    go false = refl

-- ---- every version

-- an automaton, and that its Regular on one string holds just of the durations of the version
pub record Accepting (v : ℕ) : Type 0 where
  pub automaton : Automaton
  pub same : (α : Choice) → meets (alone 1 0 (automaton ∷ [])) (regular 0 0) α ≡ is_duration v (α.text 0)

pub accepting : (v : ℕ) → Accepting v
unfolding meets alone is_duration
accepting v = go (ltb v 3) refl
  where
    go : (t : Bool) → ltb v 3 ≡ t → Accepting v
    go true e = record { automaton = whole-automaton; same = λ α. rw e (whole-accepts (α.text 0)) }
    go false e = record { automaton = parted-automaton; same = λ α. rw e (parted-accepts (α.text 0)) }

-- what the contract of `narrow` says of it
pub regular-step : (v : ℕ) (T : List ℕ) (x : ℕ) (U : List ℕ) (r : Answer Changed) → DurationStep v T x U r
    → InPlace ((accepting v).automaton ∷ []) (regular 0 0) (x ∷ []) [] T U r
unfolding variables
regular-step v T x U r s = s.step ((accepting v).automaton ∷ []) (regular 0 0) refl (accepting v).same
