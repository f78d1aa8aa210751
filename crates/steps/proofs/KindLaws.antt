-- Each kind of constraint on a lent table of an accepted file: what its relation asks of the rows and words that it names, and the step that it then makes of the whole
-- table. Assumes nothing.
use Rattle.std.specs.Prelude.{Option}
use mathlib.Core.Path.{◌≡◌, refl, sym, ap, subst, ◌∙◌}
use mathlib.Core.Logic.{◌≢◌}
use mathlib.Core.Bool.{true, false, ◌||◌, false≢true}
use mathlib.Core.List.Memᴰ
use mathlib.Core.List.{List, [], ◌∷◌}
use Prim.Native.Nat.{ℕ, ◌+◌, ◌*◌, ◌≤◌, ◌<◌}
use native.Mathlib.Omega.{arith}
use lib.Dec.{eqb}
use lib.ListN.{length, get_or}
use borrow.Author.Tests.{eq-eqb}
use Rattle.model.specs.Lists.{from, upto}
use Rattle.model.specs.Domains.{str, num, row}
use Rattle.model.specs.Constraints.{Problem, Constraint, Choice, Automaton, no_automaton, width, variables, meets, accepts, eq, neq, rev, cat, sub, len, regular}
use Rattle.model.specs.Rounds.{variables_of}
use Rattle.model.specs.Reading.{repeats}
use Rattle.laws.specs.Inclusion.{In}
use Rattle.laws.specs.Lent.{lendable}
use Rattle.laws.proofs.ListLaws.{or_false}
use Rattle.laws.proofs.ReadingLaws.{Sound}
use Rattle.laws.proofs.CallLaws.{lendable-length}
use Rattle.laws.proofs.RenameLaws.{pulled}
use Rattle.rows.specs.Rows.{alone}
use Rattle.rows.proofs.NamedLaws.{places}
use Rattle.rows.proofs.NamedLaws.{named_kind, one_below, more-below, none_below, one-distinct, two-distinct, three-distinct}
use Rattle.records.specs.declared.Record.{Record}
use Rattle.records.specs.declared.Record.TheVariants.{Eq, Neq, Rev, Cat, Sub, Len, Regular}
use Rattle.records.specs.Records.{constraint_of}
use Rattle.records.proofs.RecordLaws.{two_repeat, two-and-number_repeat, three_repeat}
use Rattle.format.specs.declared.problem.Problem as accepted
use Rattle.format.specs.Accepting.{content_of}
use Rattle.format.specs.Problems.{the_problem}
use Rattle.format.proofs.ContentLaws.{usable-counts, usable-sound, usable-machine}
use Rattle.inplace.specs.declared.Changed.{Changed}
use Rattle.inplace.specs.InTable.{Tidy}
use Rattle.inplace.specs.InPlace.{InPlace}
use Rattle.cat.specs.Strings.{Strings}
use Rattle.steps.specs.Step.{TidyIn, Narrows, KindsIn}
use Rattle.steps.proofs.NarrowsLaws.{narrows}

differ : {x y : ℕ} → eqb x y ≡ false → y ≢ x
differ {x} {y} e q = false≢true (sym e ∙ eq-eqb x y (sym q))

-- ---- an automaton: one string, and no file

pub regular-narrows : (P : Problem) (x d : ℕ) (A : Automaton) → A ≡ get_or P.automata d no_automaton → x < P.strings → (T U : List ℕ) → length T ≡ width P → (n : Option Changed)
    → InPlace (A ∷ []) (regular 0 0) (x ∷ []) [] T U n → Narrows P (regular x d) T U n
unfolding variables_of alone upto from variables meets
regular-narrows P x d A e h T U ln n s = narrows P (regular x d) (regular 0 0) (A ∷ []) (x ∷ []) []
    (named_kind P (regular x d) (regular 0 0) (A ∷ []) (x ∷ []) [] refl refl (λ α. ap (λ (B : Automaton). accepts B (α.text x)) (sym e)) (one_below P.strings h) (none_below P.numbers) (one-distinct x) tt)
    refl T U ln n s

module _ (p : accepted.Problem) (ks : List ℕ) (r : Record) (T : List ℕ)
    (pre : (lendable (the_problem p) T ≡ true) × KindsIn p ks × In (constraint_of r) (the_problem p).constraints × TidyIn (constraint_of r) T) where
  abbrev P : Problem
  P = the_problem p

  sound : Sound (content_of p.file.now p.parts)
  sound = usable-sound p.file.now p.parts p.usable p.bytes

  long : length T ≡ width P
  long = lendable-length P T pre.0

  strings-are : P.strings ≡ p.parts.s
  strings-are = (usable-counts p.file.now p.parts p.usable).strings

  module _ (c : Constraint) (is : constraint_of r ≡ c) where
    there : In c P.constraints
    there = subst (λ (d : Constraint). In d P.constraints) is pre.2

    once : repeats (variables c) ≡ false
    once = sound.distinct c there

    string-at : (x : ℕ) → In (str x) (variables c) → x < P.strings
    string-at x m = sound.well_formed c there (str x) m

    number_at : (n : ℕ) → In (num n) (variables c) → n < P.numbers
    number_at n m = sound.well_formed c there (num n) m

    tidy-at : (x : ℕ) → In (str x) (variables c) → Tidy (row T x)
    tidy-at x m = pre.3 x (subst (λ (d : Constraint). In (str x) (variables d)) (sym is) m)

    of-record : {U : List ℕ} {n : Option Changed} → Narrows P c T U n → Narrows P (constraint_of r) T U n
    of-record {U} {n} s = subst (λ (d : Constraint). Narrows P d T U n) (sym is) s

    -- ---- two strings

    module _ (d : Constraint) (x y : ℕ) (vc : variables c ≡ str x ∷ str y ∷ []) (vd : variables d ≡ str 0 ∷ str 1 ∷ [])
        (same : (α : Choice) → meets P c α ≡ meets (alone 2 0 []) d (pulled (places (x ∷ y ∷ []) []) α)) where
      first : In (str x) (variables c)
      first = subst (In (str x)) (sym vc) (Memᴰ.head refl)

      second : In (str y) (variables c)
      second = subst (In (str y)) (sym vc) (Memᴰ.tail (Memᴰ.head refl))

      other : y ≢ x
      other = differ (sym (two_repeat x y) ∙ ap repeats (sym vc) ∙ once)

      two_asks : (64 * x + 64 ≤ length T) × (64 * y + 64 ≤ length T) × (y ≢ x) × Tidy (row T x) × Tidy (row T y)
      two_asks =
          let f = string-at x first in
          let g = string-at y second in
          let l = long in
          (omega arith, omega arith, other, tidy-at x first, tidy-at y second)

      two-narrows : {U : List ℕ} {n : Option Changed} → InPlace [] d (x ∷ y ∷ []) [] T U n → Narrows P (constraint_of r) T U n
      unfolding variables_of alone upto from
      two-narrows {U} {n} s = of-record (narrows P c d [] (x ∷ y ∷ []) []
          (named_kind P c d [] (x ∷ y ∷ []) [] vc vd same (more-below P.strings (string-at x first) (one_below P.strings (string-at y second))) (none_below P.numbers) (two-distinct x y other) tt)
          vc T U long n s)

  module _ (x y : ℕ) where
    pub eq_asks : r ≡ Eq x y → (64 * x + 64 ≤ length T) × (64 * y + 64 ≤ length T) × (y ≢ x) × Tidy (row T x) × Tidy (row T y)
    unfolding constraint_of variables meets
    eq_asks e = two_asks (eq x y) (ap constraint_of e) (eq 0 1) x y refl refl (λ α. refl)

    pub eq-narrows : r ≡ Eq x y → {U : List ℕ} {n : Option Changed} → InPlace [] (eq 0 1) (x ∷ y ∷ []) [] T U n → Narrows P (constraint_of r) T U n
    unfolding constraint_of variables meets
    eq-narrows e = two-narrows (eq x y) (ap constraint_of e) (eq 0 1) x y refl refl (λ α. refl)

    pub neq_asks : r ≡ Neq x y → (64 * x + 64 ≤ length T) × (64 * y + 64 ≤ length T) × (y ≢ x) × Tidy (row T x) × Tidy (row T y)
    unfolding constraint_of variables meets
    neq_asks e = two_asks (neq x y) (ap constraint_of e) (neq 0 1) x y refl refl (λ α. refl)

    pub neq-narrows : r ≡ Neq x y → {U : List ℕ} {n : Option Changed} → InPlace [] (neq 0 1) (x ∷ y ∷ []) [] T U n → Narrows P (constraint_of r) T U n
    unfolding constraint_of variables meets
    neq-narrows e = two-narrows (neq x y) (ap constraint_of e) (neq 0 1) x y refl refl (λ α. refl)

    pub rev_asks : r ≡ Rev x y → (64 * x + 64 ≤ length T) × (64 * y + 64 ≤ length T) × (y ≢ x) × Tidy (row T x) × Tidy (row T y)
    unfolding constraint_of variables meets
    rev_asks e = two_asks (rev x y) (ap constraint_of e) (rev 0 1) x y refl refl (λ α. refl)

    pub rev-narrows : r ≡ Rev x y → {U : List ℕ} {n : Option Changed} → InPlace [] (rev 0 1) (x ∷ y ∷ []) [] T U n → Narrows P (constraint_of r) T U n
    unfolding constraint_of variables meets
    rev-narrows e = two-narrows (rev x y) (ap constraint_of e) (rev 0 1) x y refl refl (λ α. refl)

  -- ---- three

  module _ (x y z : ℕ) (e : r ≡ Cat x y z) where
    abbrev is-cat : constraint_of r ≡ cat x y z
    unfolding constraint_of
    is-cat = ap constraint_of e

    cat-first : In (str x) (variables (cat x y z))
    unfolding variables
    cat-first = Memᴰ.head refl

    cat-second : In (str y) (variables (cat x y z))
    unfolding variables
    cat-second = Memᴰ.tail (Memᴰ.head refl)

    cat-third : In (str z) (variables (cat x y z))
    unfolding variables
    cat-third = Memᴰ.tail (Memᴰ.tail (Memᴰ.head refl))

    cat-others : (y ≢ x) × (z ≢ x) × (z ≢ y)
    unfolding variables
    cat-others =
        let o = or_false (eqb x y || eqb x z) (eqb y z) (sym (three_repeat x y z) ∙ once (cat x y z) is-cat) in
        let q = or_false (eqb x y) (eqb x z) o.0 in
        (differ q.0, differ q.1, differ o.1)

    pub cat_asks : Strings T x y z
    cat_asks =
        let f = string-at (cat x y z) is-cat x cat-first in
        let g = string-at (cat x y z) is-cat y cat-second in
        let h = string-at (cat x y z) is-cat z cat-third in
        let l = long in
        let o = cat-others in
        record {
          fits-x = omega arith;
          fits-y = omega arith;
          fits-z = omega arith;
          y≢x = o.0;
          z≢x = o.1;
          z≢y = o.2;
          tidy-x = tidy-at (cat x y z) is-cat x cat-first;
          tidy-y = tidy-at (cat x y z) is-cat y cat-second;
          tidy-z = tidy-at (cat x y z) is-cat z cat-third;
        }

    pub cat-narrows : {U : List ℕ} {n : Option Changed} → InPlace [] (cat 0 1 2) (x ∷ y ∷ z ∷ []) [] T U n → Narrows P (constraint_of r) T U n
    unfolding variables_of alone upto from variables meets
    cat-narrows {U} {n} s =
        let o = cat-others in
        of-record (cat x y z) is-cat (narrows P (cat x y z) (cat 0 1 2) [] (x ∷ y ∷ z ∷ []) []
        (named_kind P (cat x y z) (cat 0 1 2) [] (x ∷ y ∷ z ∷ []) [] refl refl (λ α. refl)
        (more-below P.strings (string-at (cat x y z) is-cat x cat-first) (more-below P.strings (string-at (cat x y z) is-cat y cat-second)
        (one_below P.strings (string-at (cat x y z) is-cat z cat-third))))
        (none_below P.numbers) (three-distinct x y z o.0 o.1 o.2) tt)
        refl T U long n s)

  -- ---- a number: its word is past the rows

  module _ (x y n : ℕ) (e : r ≡ Sub x y n) where
    abbrev is-sub : constraint_of r ≡ sub x y n
    unfolding constraint_of
    is-sub = ap constraint_of e

    sub_ranges : (x < P.strings) × (y < P.strings) × (n < P.numbers)
    unfolding variables
    sub_ranges = (
      string-at (sub x y n) is-sub x (Memᴰ.head refl),
      string-at (sub x y n) is-sub y (Memᴰ.tail (Memᴰ.head refl)),
      number_at (sub x y n) is-sub n (Memᴰ.tail (Memᴰ.tail (Memᴰ.head refl))),
    )

    sub-other : y ≢ x
    unfolding variables
    sub-other = differ (sym (two-and-number_repeat x y n) ∙ once (sub x y n) is-sub)

    pub sub_asks : (64 * x + 64 ≤ 64 * p.parts.s + n) × (64 * y + 64 ≤ 64 * p.parts.s + n) × (64 * p.parts.s + n < length T) × (y ≢ x) × Tidy (row T x) × Tidy (row T y)
    unfolding variables
    sub_asks =
        let t = sub_ranges in
        let f = t.0 in
        let g = t.1 in
        let h = t.2 in
        let l = long in
        let q = strings-are in
        (omega arith, omega arith, omega arith, sub-other, tidy-at (sub x y n) is-sub x (Memᴰ.head refl), tidy-at (sub x y n) is-sub y (Memᴰ.tail (Memᴰ.head refl)))

    pub sub-narrows : {U : List ℕ} {k : Option Changed} → InPlace [] (sub 0 1 0) (x ∷ y ∷ []) ((64 * p.parts.s + n) ∷ []) T U k → Narrows P (constraint_of r) T U k
    unfolding variables_of alone upto from variables meets
    sub-narrows {U} {k} s =
        let t = sub_ranges in
        of-record (sub x y n) is-sub (narrows P (sub x y n) (sub 0 1 0) [] (x ∷ y ∷ []) (n ∷ [])
        (named_kind P (sub x y n) (sub 0 1 0) [] (x ∷ y ∷ []) (n ∷ []) refl refl (λ α. refl) (more-below P.strings t.0 (one_below P.strings t.1)) (one_below P.numbers t.2)
        (two-distinct x y sub-other) (one-distinct n))
        refl T U long k (subst (λ (w : ℕ). InPlace [] (sub 0 1 0) (x ∷ y ∷ []) ((64 * w + n) ∷ []) T U k) (sym strings-are) s))

  module _ (x n : ℕ) (e : r ≡ Len x n) where
    abbrev is-len : constraint_of r ≡ len x n
    unfolding constraint_of
    is-len = ap constraint_of e

    len_ranges : (x < P.strings) × (n < P.numbers)
    unfolding variables
    len_ranges = (string-at (len x n) is-len x (Memᴰ.head refl), number_at (len x n) is-len n (Memᴰ.tail (Memᴰ.head refl)))

    pub len_asks : (64 * x + 64 ≤ 64 * p.parts.s + n) × (64 * p.parts.s + n < length T) × Tidy (row T x)
    unfolding variables
    len_asks =
        let t = len_ranges in
        let f = t.0 in
        let h = t.1 in
        let l = long in
        let q = strings-are in
        (omega arith, omega arith, tidy-at (len x n) is-len x (Memᴰ.head refl))

    pub len-narrows : {U : List ℕ} {k : Option Changed} → InPlace [] (len 0 0) (x ∷ []) ((64 * p.parts.s + n) ∷ []) T U k → Narrows P (constraint_of r) T U k
    unfolding variables_of alone upto from variables meets
    len-narrows {U} {k} s =
        let t = len_ranges in
        of-record (len x n) is-len (narrows P (len x n) (len 0 0) [] (x ∷ []) (n ∷ [])
        (named_kind P (len x n) (len 0 0) [] (x ∷ []) (n ∷ []) refl refl (λ α. refl) (one_below P.strings t.0) (one_below P.numbers t.1) (one-distinct x) (one-distinct n))
        refl T U long k (subst (λ (w : ℕ). InPlace [] (len 0 0) (x ∷ []) ((64 * w + n) ∷ []) T U k) (sym strings-are) s))

  -- ---- an automaton of the file

  module _ (x i : ℕ) (e : r ≡ Regular x i) where
    abbrev is-regular : constraint_of r ≡ regular x i
    unfolding constraint_of
    is-regular = ap constraint_of e

    pub regular_asks : (lendable P T ≡ true) × KindsIn p ks × (x < p.parts.s) × (i < p.parts.d) × Tidy (row T x)
    unfolding variables
    regular_asks =
        let f = string-at (regular x i) is-regular x (Memᴰ.head refl) in
        let q = strings-are in
        (pre.0, pre.1, omega arith, usable-machine p.file.now p.parts p.usable x i (there (regular x i) is-regular), tidy-at (regular x i) is-regular x (Memᴰ.head refl))

    pub regular-of : {U : List ℕ} {n : Option Changed} → Narrows P (regular x i) T U n → Narrows P (constraint_of r) T U n
    regular-of s = of-record (regular x i) is-regular s
