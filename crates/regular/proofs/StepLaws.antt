-- The step of Regular on a lent table: the turns of the loop forwards, the levels of the recursion backwards, and the whole. Assumes nothing.
use mathlib.Core.Path.{◌≡◌, refl, sym, ap, ap₂, subst, ◌∙◌}
use mathlib.Core.Logic.{◌≢◌, ⊎_elim}
use mathlib.Core.Bool.{Bool, true, false, not, cond, ◌||◌, false≢true}
use mathlib.Core.List.{List, [], ◌∷◌}
use Prim.Native.Nat.{ℕ, suc, ◌+◌, ◌-◌, ◌*◌, ◌/◌, ◌%◌, ◌^◌, ◌≤◌, ◌<◌}
use native.Mathlib.Nat.{eq-or-lt_of_le}
use native.Mathlib.Omega.{arith}
use lib.Bits.{bit_and, bit_or}
use lib.Dec.{eqb, ltb}
use lib.ListN.{length, get_or, set, length-set, length-replicate, get_or-replicate}
use lib.Seq.{get_or-set_same, get_or-set_other}
use borrow.Author.Tests.{eqb-true, eqb-false, ltb-true, ltb-false}
use Rattle.model.specs.Words.{bit, word, none_from, Words}
use Rattle.model.specs.Domains.{row}
use Rattle.model.specs.Layout.{little, part}
use Rattle.model.specs.Constraints.{Automaton, regular}
use Rattle.laws.proofs.DomainLaws.{row-length, row_words}
use Rattle.laws.proofs.RowLaws.{used-length}
use Rattle.words.specs.Ends.{Highest}
use Rattle.rows.proofs.Windows.{uses-symbol}
use Rattle.automata.specs.Machine.{state_count, machine, Whole}
use Rattle.automata.specs.StateSets.{LowBits, Successors, Symbols, Entering, Steps}
use Rattle.automata.proofs.MachineLaws.{machine-accepting}
use Rattle.automata.proofs.SetLaws.{no-bit, gathered_empty}
use Rattle.std.specs.Prelude.{Some, None}
use Rattle.inplace.specs.InTable.{Tidy, Ready, Shortened, Changed, Flag, zeros}
use Rattle.inplace.specs.InPlace.{InPlace}
use Rattle.laws.proofs.ListLaws.{or_false, or_true, not_false, not_true}
use Rattle.inplace.proofs.Tables.{row_first, row-place, highest-most, highest-one, bit-some, only_out}
use Rattle.inplace.proofs.Sides.{Side, side-of, side-ended, side-flag}
use Rattle.inplace.proofs.Shapes.{one_left, one_none}
use Rattle.regular.specs.Paths.{Reach}
use Rattle.regular.specs.PlaceSets.{Alphabet, Forward, Lengths}
use Rattle.regular.specs.Backwards.{Accepted, Through, Going, Backward}
use Rattle.regular.proofs.StateLaws.{Suited, machine-suited, forward-less, forward-step, forward-states}
use Rattle.regular.proofs.BackLaws.{lengths-accepted, nothing_through, between-last, between_next, through_next, reach-before, between-all, through_all}
use Rattle.regular.proofs.RegularLaws.{length-sound, symbol-stays, regular-narrowed}

-- the states that move on by a symbol that is kept are those that move on by one that is allowed
pub steps-kept : (A : Automaton) (q k allowed from into symbols states : ℕ) → Symbols A q k allowed from into symbols → Entering A q k from into symbols states
    → Steps A q k allowed from into symbols states
steps-kept A q k allowed from into symbols states s g = record {
  by = s;
  of = record {
    sound = λ t b.
        let u = g.sound t b in
        let m = u.2.2 in
        let y = s.sound m.0 m.2 in
        (u.0, u.1, (u.2.0, u.2.1, (m.0, m.1, subst (λ (a : ℕ). bit allowed a ≡ true) y.2.0 y.2.1, m.3)));
    complete = λ t p h u.
        let m = u.2 in
        g.complete t p h (u.0, u.1, (m.0, m.1, s.complete m.0 m.0 m.1 (refl, m.2, (p, h, u.1, m.3)), m.3));
  };
}

-- of nothing there are no steps
pub steps-none : (A : Automaton) (q k : ℕ) → Steps A q k 0 0 0 0 0
steps-none A q k = record { by = gathered_empty _ k (λ a t x. no-bit 0 a refl x.1); of = gathered_empty _ q (λ p t x. no-bit 0 p refl x.1) }

-- one word more is written
changed-at : (f f' g : ℕ → ℕ) (m i : ℕ) (c p : Bool) → i < m → Changed f g m c → ((j : ℕ) → j ≢ i → f' j ≡ f j) → f i ≡ g i → p ≡ not (eqb (g i) (f' i))
    → Changed f' g m (c || p)
changed-at f f' g m i c p h t s old e = record {
  same = λ q j l. let u = or_false c p q in at j l u.0 u.1 (eqb j i) refl;
  differ = λ q. ⊎_elim
      (λ d. let u = t.differ d in (u.0, u.1, λ r. u.2 (sym (s u.0 (λ z. u.2 (ap f z ∙ old ∙ ap g (sym z)))) ∙ r)))
      (λ d. (i, h, λ r. eqb-false (g i) (f' i) (not_true _ (sym e ∙ d)) (sym r)))
      (or_true c p q);
}
  where
    at : (j : ℕ) → j < m → c ≡ false → p ≡ false → (b : Bool) → eqb j i ≡ b → f' j ≡ g j
    at j l u v true q = let z = eqb-true j i q in ap f' z ∙ sym (eqb-true (g i) (f' i) (not_false _ (sym e ∙ v))) ∙ ap g (sym z)
    at j l u v false q = s j (eqb-false j i q) ∙ t.same u j l

-- a tidy row has a length
module _ (k : ℕ) (bs T : List ℕ) (x : ℕ) (whole : Whole k bs) (fits : 64 * x + 64 ≤ length T) (alphabet : Alphabet k (row T x)) (bd : Words T) where
  abbrev A : Automaton
  A = machine k bs

  abbrev r : List ℕ
  r = row T x

  suited : Suited A (state_count bs) k r
  suited = machine-suited k bs r whole alphabet (row-length T x fits) (row_words T bd x)

  place-word : (i : ℕ) → i < 63 → word T (64 * x + i + 1) ≡ word r (suc i)
  place-word i h = let e : 64 * x + i + 1 ≡ suc (64 * x + i) = omega arith in ap (word T) e ∙ sym (row-place T x i h)

  pub place-low : (i : ℕ) → i < 63 → none_from k (word T (64 * x + i + 1)) ≡ true
  place-low i h = ap (none_from k) (place-word i h) ∙ alphabet.below i h

  -- ---- forwards

  pub forward-turn : (i s : ℕ) (sets : List ℕ) → i < 63 → length sets ≡ 64 → Forward A r (i + 1) sets → Successors A (state_count bs) k (word sets i)
      (word T (64 * x + i + 1)) s
      → Forward A r (i + 1 + 1) (set sets (i + 1) s)
  forward-turn i s sets h n f g =
      let e : suc i ≡ i + 1 = omega arith in
      forward-step A (state_count bs) k r suited i s sets (omega arith) f
      (subst (λ (w : ℕ). Successors A (state_count bs) k (word sets i) w s) (place-word i h ∙ ap (word r) e) g)

  -- ---- the accepted lengths

  module _ (tidy : Tidy r) (longest acc ends : ℕ) (sets : List ℕ) (high : Highest (word T (64 * x)) longest) (f : Forward A r (longest + 1) sets)
      (small : acc < 2 ^ 32) (u : acc ≡ little (part 1 4 bs)) (g : Lengths 64 (word T (64 * x)) acc sets ends) where
    all-accepted : Accepted A r ends
    all-accepted = lengths-accepted A r longest acc ends sets (subst (λ (w : ℕ). Highest w longest) (sym (row_first T x)) high)
        small (u ∙ sym (machine-accepting k bs))
        (forward-less A r sets (longest + 1) (suc longest) (omega arith) f)
        (subst (λ (w : ℕ). Lengths 64 w acc sets ends) (sym (row_first T x)) g)

    pub going : (top : ℕ) → Highest ends top → Going k bs T x sets ends top
    going top h = record {
      fits = fits;
      alphabet = alphabet;
      tidy = tidy;
      before =
          let l = highest-most (word T (64 * x)) longest top high (ap (λ (w : ℕ). bit w top) (sym (row_first T x)) ∙ (all-accepted.sound top h.here).0) in
          forward-less A r sets (longest + 1) (suc top) (omega arith) f;
      accepted = all-accepted;
      longest = h;
    }

    pub regular-none : ends ≡ 0 → InPlace (A ∷ []) (regular 0 0) (x ∷ []) [] T T None
    regular-none z =
        let none : (w : ℕ) → w ≡ 0 → Accepted A r w = λ w e. subst (Accepted A r) (z ∙ sym e) all-accepted in
        one_none (A ∷ []) (regular 0 0) x T T refl (λ n o. refl)
        (regular-narrowed A r zeros (row-length T x fits) (row_words T bd x) (length-replicate {A = ℕ} 64 0) (none 0 refl)
        (λ j h. nothing_through A r ends all-accepted j (word zeros (suc j)) (get_or-replicate 64 (suc j) 0 0 (omega arith))
        (λ l b. absurd (no-bit ends l z b))))

-- ---- backwards

going-same : (k : ℕ) (bs T sets : List ℕ) (ends x y top m : ℕ) → x ≡ y → top ≡ m → Going k bs T x sets ends top → Going k bs T y sets ends m
going-same k bs T sets ends x y top m e f g =
    subst (λ (v : ℕ). Going k bs T v sets ends m) e (subst (λ (v : ℕ). Going k bs T x sets ends v) f g)

backward-same : (A : Automaton) (T U : List ℕ) (s : ℕ) (c : Bool) (x y i j top m : ℕ) → x ≡ y → i ≡ j → top ≡ m → Backward A T x i top U s c
    → Backward A T y j m U s c
backward-same A T U s c x y i j top m e f g b =
    subst (λ (v : ℕ). Backward A T v j m U s c) e
    (subst (λ (v : ℕ). Backward A T x v m U s c) f (subst (λ (v : ℕ). Backward A T x i v U s c) g b))

module _ (k : ℕ) (bs T : List ℕ) (x : ℕ) (sets : List ℕ) (ends top : ℕ) (whole : Whole k bs) (bd : Words T) (go : Going k bs T x sets ends top) where
  abbrev A₁ : Automaton
  A₁ = machine k bs

  abbrev r₁ : List ℕ
  r₁ = row T x

  abbrev q₁ : ℕ
  q₁ = state_count bs

  fit : Suited A₁ q₁ k r₁
  fit = suited k bs T x whole go.fits go.alphabet bd

  most : (l : ℕ) → bit ends l ≡ true → l ≤ top
  most l b = highest-most ends top l go.longest b

  -- the longest accepted length is one of the row's
  pub top_small : top ≤ go.tidy.top
  top_small = highest-most (word r₁ 0) go.tidy.top top go.tidy.longest (go.accepted.sound top go.longest.here).0

  -- the states that i places lead to
  states-of : (i from : ℕ) → i ≤ top → LowBits 32 (word sets i) from
      → ((p : ℕ) → bit from p ≡ true → Reach A₁ r₁ i p) × ((p : ℕ) → Reach A₁ r₁ i p → bit from p ≡ true)
  states-of i from h low = forward-states A₁ q₁ k r₁ fit (suc top) i from sets (omega arith) go.before low

  -- as the recursion counts, by the places of the table
  pub going-all : Going k bs T (64 * x / 64) sets ends (64 * x % 64 + top)
  going-all = going-same k bs T sets ends x (64 * x / 64) top (64 * x % 64 + top) (omega arith) (omega arith) go

  -- past the longest accepted length
  pub backward-first : (i from here : ℕ) → i ≡ top → LowBits 32 (word sets i) from → here ≡ cond (bit ends i) (bit_and from (little (part 1 4 bs))) 0
      → Backward A₁ T x i top T here false
  backward-first i from here e low h = record {
    size = refl;
    states = between-last A₁ r₁ ends go.accepted i from here (states-of i from (omega arith) low) (little (part 1 4 bs)) (sym (machine-accepting k bs)) h
        (λ l b. let m = most l b in omega arith);
    places = λ j l m. absurd (omega arith);
    others = λ n f. refl;
    flag = record { same = λ q j l. refl; differ = λ q. absurd (false≢true q) };
  }

  module _ (i behind : ℕ) (U : List ℕ) (c : Bool) (h : i < top) (b : Backward A₁ T x (suc i) top U behind c) where
    -- the word of this place is not written yet
    old : word U (suc (64 * x + i)) ≡ word T (suc (64 * x + i))
    old = b.others (suc (64 * x + i)) (λ j l m e. omega arith)

    place : word U (suc (64 * x + i)) ≡ word r₁ (suc i)
    place = let s = go.longest.small in old ∙ sym (row-place T x i (omega arith))

    pub backward-low : none_from k (word U (suc (64 * x + i))) ≡ true
    backward-low = ap (none_from k) place ∙ (let s = go.longest.small in go.alphabet.below i (omega arith))

    -- the places before lead to some state, as those up to the longest accepted length do
    way_here : (p : ℕ) × Reach A₁ r₁ i p
    way_here =
        let t = (go.accepted.sound top go.longest.here).1 in
        let n : top ≡ i + (top - i) = omega arith in
        reach-before A₁ r₁ (top - i) i t.0 (subst (λ (m : ℕ). Reach A₁ r₁ m t.0) n t.1)

    -- from here on nothing is struck
    pub backward-all : (from : ℕ) → LowBits 32 (word sets i) from → behind ≡ word sets (suc i) → Backward A₁ T x i top U from c
    backward-all from low e =
        let l : i < go.tidy.top = let s = top_small in omega arith in
        let g = states-of i from (omega arith) low in
        let way = way_here in
        record {
          size = b.size;
          states = between-all A₁ q₁ k r₁ fit go.tidy (suc top) i behind from sets (omega arith) go.before g l b.states e;
          places = λ j p m. ⊎_elim
              (λ z. subst (λ (n : ℕ). Through A₁ r₁ n (word U (suc (64 * x + n)))) z
              (subst (Through A₁ r₁ i) (sym place)
              (through_all A₁ q₁ k r₁ fit go.tidy (suc top) i behind from sets (omega arith) go.before g l b.states e way.0 way.1)))
              (λ g. b.places j g m)
              (eq-or-lt_of_le p);
          others = λ n f. b.others n (λ j p m. f j (omega arith) m);
          flag = b.flag;
        }

    -- the place is written
    module _ (from here symbols states : ℕ) (low : LowBits 32 (word sets i) from) (e : here ≡ cond (bit ends i) (bit_and from (little (part 1 4 bs))) 0)
        (s : Steps A₁ q₁ k (word r₁ (suc i)) from behind symbols states) where
      abbrev U₁ : List ℕ
      U₁ = set U (suc (64 * x + i)) symbols

      same : word U₁ (suc (64 * x + i)) ≡ symbols
      same = let n = b.size in let m = go.fits in let t = go.longest.small in get_or-set_same U (suc (64 * x + i)) symbols 0 (omega arith)

      other : (n : ℕ) → n ≢ suc (64 * x + i) → word U₁ n ≡ word U n
      other n f = get_or-set_other U (suc (64 * x + i)) n symbols 0 f

      pub backward-next : (p : Bool) → p ≡ not (eqb (word U (suc (64 * x + i))) symbols) → Backward A₁ T x i top U₁ (bit_or here states) (c || p)
      backward-next p d = record {
        size = length-set U (suc (64 * x + i)) symbols ∙ b.size;
        states = between_next A₁ r₁ ends go.accepted i from here (states-of i from (omega arith) low) (little (part 1 4 bs)) (sym (machine-accepting k bs)) e
            q₁ k behind symbols states fit b.states s;
        places = λ j l m. ⊎_elim
            (λ z. subst (λ (n : ℕ). Through A₁ r₁ n (word U₁ (suc (64 * x + n)))) z
            (subst (Through A₁ r₁ i) (sym same) (through_next A₁ r₁ ends go.accepted i from here (states-of i from (omega arith) low) (little (part 1 4 bs))
            (sym (machine-accepting k bs)) e q₁ k behind symbols states fit b.states s)))
            (λ g. subst (Through A₁ r₁ j) (sym (other (suc (64 * x + j)) (omega arith))) (b.places j g m))
            (eq-or-lt_of_le l);
        others = λ n f. other n (f i (omega arith) h) ∙ b.others n (λ j l m. f j (omega arith) m);
        flag = changed-at _ _ _ top i c p h b.flag (λ j n. other (suc (64 * x + j)) (λ z. n (omega arith))) old
            (d ∙ ap₂ (λ (v w : ℕ). not (eqb v w)) old (sym same));
      }

  -- ---- the whole

  module _ (U : List ℕ) (s : ℕ) (c : Bool) (back : Backward A₁ T (64 * x / 64) (64 * x % 64) (64 * x % 64 + top) U s c) where
    b : Backward A₁ T x 0 top U s c
    b = backward-same A₁ T U s c (64 * x / 64) x (64 * x % 64) 0 (64 * x % 64 + top) top (omega arith) (omega arith) (omega arith) back

    side : Side r₁ (row U x) top (row U x) c
    side =
        let h = go.longest.small in
        side-of T U (row U x) x top c (omega arith) go.fits b.size (b.others (64 * x) (λ j l m e. omega arith))
        (λ i l. sym (row-place U x i (omega arith)))
        (λ i l m. b.others (suc (64 * x + i)) (λ j n o e. omega arith)) b.flag

    pub regular-ready : Ready U x ends
    regular-ready = record {
      fits = let n = b.size in let m = go.fits in omega arith;
      some = bit-some ends top go.longest.here;
      within = λ n e. ap (λ (w : ℕ). bit w n) (b.others (64 * x) (λ j l m e. omega arith) ∙ sym (row_first T x)) ∙ (go.accepted.sound n e).0;
      ended = side-ended r₁ (row U x) top (row U x) c go.tidy top_small side;
    }

    module _ (W : List ℕ) (p : Bool) (t : Shortened U x ends W p) where
      abbrev v : List ℕ
      v = row W x

      top-same : t.top ≡ top
      top-same = highest-one ends t.top top t.longest go.longest

      lengths : Accepted A₁ r₁ (word v 0)
      lengths = subst (Accepted A₁ r₁) (sym t.cut.first) go.accepted

      places : (j : ℕ) → j < 63 → Through A₁ r₁ j (word v (suc j))
      places j h = at (ltb j top) refl
        where
          at : (q : Bool) → ltb j top ≡ q → Through A₁ r₁ j (word v (suc j))
          at true q =
              let l = ltb-true j top q in
              let n = top-same in
              subst (Through A₁ r₁ j) (sym (t.cut.kept j (omega arith) ∙ row-place U x j h)) (b.places j (omega arith) l)
          at false q =
              let l = ltb-false j top q in
              let n = top-same in
              nothing_through A₁ r₁ ends go.accepted j (word v (suc j)) (t.cut.gone j (omega arith)) (λ i y. let m = most i y in omega arith)

      lr : length r₁ ≡ 64
      lr = row-length T x go.fits

      filled : (i : ℕ) → i < top → 0 < word v (suc i)
      filled i h =
          let k₁ = go.longest.small in
          let w = length-sound A₁ r₁ v lr (row_words T bd x) t.cut.size lengths places top
          (ap (λ (m : ℕ). bit m top) t.cut.first ∙ go.longest.here) in
          let n : length w.0 ≡ top = used-length w.0 top w.2 in
          bit-some (word v (suc i)) (get_or w.0 i 0)
          (symbol-stays A₁ r₁ v lr (row_words T bd x) t.cut.size lengths places i (get_or w.0 i 0) (omega arith) w.0 w.1
          (uses-symbol w.0 i (get_or w.0 i 0) (omega arith) refl))

      pub regular-left : (cx : Bool) → cx ≡ (c || p) → InPlace (A₁ ∷ []) (regular 0 0) (x ∷ []) [] T W (Some (record { x = cx; y = false; z = false }))
      regular-left cx e = one_left (A₁ ∷ []) (regular 0 0) x T W (t.only.size ∙ b.size)
          (λ n f. let h = go.longest.small in only_out U x W t.only n f ∙ b.others n (λ j l m g. f (suc j) (omega arith) (omega arith)))
          (regular-narrowed A₁ r₁ v lr (row_words T bd x) t.cut.size lengths places)
          (record {
            top = top;
            longest = subst (λ (w : ℕ). Highest w top) (sym t.cut.first) go.longest;
            filled = filled;
            gone = λ i l. let n = top-same in t.cut.gone i (omega arith);
          })
          cx
          (subst (Flag r₁ v) (sym e) (let n = top-same in side-flag r₁ (row U x) top (row U x) c go.tidy top_small side ends t.top v (omega arith)
          t.cut p
          (λ z. ap (λ (L : List ℕ). row L x) (t.same z)) (λ z y. t.less z (sym (row_first U x) ∙ y))))

-- ---- a level of the recursion, as it counts: n is a place of the table, and r places follow

module _ (k : ℕ) (bs T sets : List ℕ) (ends n r : ℕ) (whole : Whole k bs) (bd : Words T) (go : Going k bs T (n / 64) sets ends (n % 64 + r)) where
  abbrev A₂ : Automaton
  A₂ = machine k bs

  here_place : n + 1 ≡ suc (64 * (n / 64) + n % 64)
  here_place = omega arith

  pub level_first : (from here : ℕ) (c : Bool) → r ≡ 0 → LowBits 32 (word sets (n % 64)) from
      → here ≡ cond (bit ends (n % 64)) (bit_and from (little (part 1 4 bs))) 0 → c ≡ false → Backward A₂ T (n / 64) (n % 64) (n % 64 + r) T here c
  level_first from here c e low h f =
      subst (λ (b : Bool). Backward A₂ T (n / 64) (n % 64) (n % 64 + r) T here b) (sym f)
      (backward-first k bs T (n / 64) sets ends (n % 64 + r) whole bd go (n % 64) from here (omega arith) low h)

  module _ (some : r ≢ 0) where
    row_same : (n + 1) / 64 ≡ n / 64
    row_same = let s = go.longest.small in omega arith

    next_place : (n + 1) % 64 ≡ suc (n % 64)
    next_place = let s = go.longest.small in omega arith

    top_one : (n + 1) % 64 + (r - 1) ≡ n % 64 + r
    top_one = let e = next_place in omega arith

    pub level_going : Going k bs T ((n + 1) / 64) sets ends ((n + 1) % 64 + (r - 1))
    level_going = going-same k bs T sets ends (n / 64) ((n + 1) / 64) (n % 64 + r) ((n + 1) % 64 + (r - 1)) (sym row_same) (sym top_one) go

    module _ (behind : ℕ) (U : List ℕ) (c : Bool) (b : Backward A₂ T ((n + 1) / 64) ((n + 1) % 64) ((n + 1) % 64 + (r - 1)) U behind c) where
      next : Backward A₂ T (n / 64) (suc (n % 64)) (n % 64 + r) U behind c
      next = backward-same A₂ T U behind c ((n + 1) / 64) (n / 64) ((n + 1) % 64) (suc (n % 64)) ((n + 1) % 64 + (r - 1)) (n % 64 + r) row_same next_place top_one
          b

      less : n % 64 < n % 64 + r
      less = omega arith

      pub level_inside : n + 1 < length U
      level_inside = let s = go.longest.small in let m = go.fits in let l = b.size in omega arith

      pub level_low : none_from k (word U (n + 1)) ≡ true
      level_low = ap (λ (m : ℕ). none_from k (word U m)) here_place ∙ backward-low k bs T (n / 64) sets ends (n % 64 + r) whole bd go (n % 64) behind U c less next

      pub level_all : (from : ℕ) → LowBits 32 (word sets (n % 64)) from → behind ≡ word sets (n % 64 + 1) → Backward A₂ T (n / 64) (n % 64) (n % 64 + r) U from c
      level_all from low e =
          let f : n % 64 + 1 ≡ suc (n % 64) = omega arith in
          backward-all k bs T (n / 64) sets ends (n % 64 + r) whole bd go (n % 64) behind U c less next from low (e ∙ ap (word sets) f)

      pub level_next : (from here symbols states : ℕ) → LowBits 32 (word sets (n % 64)) from → here ≡ cond (bit ends (n % 64)) (bit_and from (little (part 1 4 bs))) 0
          → Steps A₂ (state_count bs) k (word U (n + 1)) from behind symbols states → (U₁ : List ℕ) (p c₁ : Bool)
          → (U₁ ≡ set U (n + 1) symbols) × (p ≡ not (eqb (word U (n + 1)) symbols)) → c₁ ≡ (c || p)
          → Backward A₂ T (n / 64) (n % 64) (n % 64 + r) U₁ (bit_or here states) c₁
      level_next from here symbols states low e s U₁ p c₁ put d =
          let g : U₁ ≡ set U (suc (64 * (n / 64) + n % 64)) symbols = put.0 ∙ ap (λ (i : ℕ). set U i symbols) here_place in
          rw (d, g) (backward-next k bs T (n / 64) sets ends (n % 64 + r) whole bd go (n % 64) behind U c less next from here symbols states low e
          (subst (λ (w : ℕ). Steps A₂ (state_count bs) k w from behind symbols states)
          (ap (word U) here_place ∙ place k bs T (n / 64) sets ends (n % 64 + r) whole bd go (n % 64) behind U c less next) s) p
          (put.1 ∙ ap (λ (i : ℕ). not (eqb (word U i) symbols)) here_place))
