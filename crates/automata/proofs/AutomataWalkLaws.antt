-- The automata of a file, one after the other: the tests of refusal 5, and how the walk from one automaton to the next goes on. Assumes nothing.
use Rattle.std.proofs.Common.{◌≡◌, ℕ, zero, suc, ◌+◌, ◌-◌, ◌*◌, ◌%◌, ◌<◌, ◌≤◌, max, Bool, true, false, ◌||◌, eqb, ltb, leb, ◌⊎◌, List, [], ◌∷◌, length, get_or, take, drop, sym, refl, ap, ◌∙◌, subst, inl, inr, ⊎_elim, le_of_eq, arith, length-drop, length-take-le, get_or-take, get_or-drop, take_all, drop-drop, lt-ltb, eq-eqb, ne_eqb, eqb-true, le-leb, leb-true}
use Rattle.std.proofs.lemmas.Bool.{cases_lt}
use mathlib.Core.Bool.{or-true, false≢true}
use mathlib.Core.Option.{Option, none, some, bind}
use borrow.Author.Tests.{eqb-false}
use Rattle.model.specs.Lists.{all, given}
use Rattle.model.specs.Words.{none_from}
use Rattle.model.specs.Constraints.{Automaton, no_automaton}
use Rattle.model.specs.Layout.{Bytes, little, part}
use Rattle.model.specs.Reading.{known, automaton, automata_in}
use Rattle.laws.proofs.LayoutLaws.{part_length}
use Rattle.laws.proofs.ListLaws.{given-some, bind-some, of-all, in_all, get_or_in, in_get_or}
use Rattle.laws.proofs.WordLaws.{bool_ext}
use Rattle.automata.specs.Machine.{state_count, machine, Whole}
use Rattle.automata.specs.Walk.{present, Held, Starts}
use Rattle.automata.proofs.MachineLaws.{moves_byte, known-cases, automaton-whole}
use Rattle.automata.proofs.SetLaws.{one_more}

-- ---- values that may be missing

module _ {A : Type 0} where
  pub of-present : (o : Option A) → present o ≡ true → (a : A) × (o ≡ some a)
  unfolding present
  of-present none e = absurd (false≢true e)
  of-present (some a) e = (a, refl)

  pub of_absent : (o : Option A) → present o ≡ false → o ≡ none
  unfolding present
  of_absent none e = refl
  of_absent (some a) e = absurd (false≢true (sym e))

  present-given : (t : Bool) (a : A) → present (given t a) ≡ t
  unfolding present given
  present-given true a = refl
  present-given false a = refl

-- a part that is lent to its end
abbrev pub lent : ℕ → List ℕ → List ℕ
lent at bs = take (length bs - at) (drop at bs)

pub rest-lent : (at : ℕ) (bs : List ℕ) → lent at bs ≡ drop at bs
rest-lent at bs = take_all (length bs - at) (drop at bs) (le_of_eq (length-drop at bs))

-- ---- the moves

-- the n bytes from byte 5 on, as they are lent
abbrev pub lent_moves : ℕ → List ℕ → List ℕ
lent_moves n bs = take (5 + n - 5) (drop 5 bs)

pub moves_long : (n : ℕ) (bs : List ℕ) → 5 + n ≤ length bs → length (lent_moves n bs) ≡ n
moves_long n bs h = omega (arith, length-take-le (5 + n - 5) (drop 5 bs) (omega (arith, length-drop 5 bs)))

pub lent_move : (n : ℕ) (bs : List ℕ) (j : ℕ) → j < n → get_or (lent_moves n bs) j 0 ≡ get_or bs (5 + j) 0
lent_move n bs j h = get_or-take (5 + n - 5) (drop 5 bs) j 0 (omega arith) ∙ get_or-drop 5 bs j 0

-- the greatest of n bytes from byte 5 on, each counted one higher, so that 255 counts as 0
pub record Greatest (bs : List ℕ) (n top : ℕ) : Type 0 where
  pub most : (j : ℕ) → j < n → (get_or bs (5 + j) 0 + 1) % 256 ≤ top
  pub here : (top ≡ 0) ⊎ ((j : ℕ) × (j < n) × (top ≡ (get_or bs (5 + j) 0 + 1) % 256))

pub greatest_none : (bs : List ℕ) → Greatest bs 0 0
greatest_none bs = record { most = λ j h. absurd (omega arith); here = inl refl }

module _ (bs : List ℕ) (n top more : ℕ) (g : Greatest bs n top) (e : more ≡ (get_or bs (5 + n) 0 + 1) % 256) where
  one-most : (new : ℕ) → top ≤ new → more ≤ new → (j : ℕ) → j < n + 1 → (get_or bs (5 + j) 0 + 1) % 256 ≤ new
  one-most new h l = one_more (λ j. (get_or bs (5 + j) 0 + 1) % 256 ≤ new) n (λ j m. let b = g.most j m in omega arith) (subst (λ (v : ℕ). v ≤ new) e l)

  greatest_new : top < more → Greatest bs (n + 1) more
  greatest_new h = record { most = one-most more (omega arith) (omega arith); here = inr (n, omega arith, e) }

  greatest_old : more ≤ top → Greatest bs (n + 1) top
  greatest_old h = record {
    most = one-most top (omega arith) h;
    here = ⊎_elim inl (λ y. inr (y.0, (let l = y.1 in omega arith), y.2)) g.here;
  }

  pub greatest_more : Greatest bs (n + 1) (max top more)
  greatest_more = ⊎_elim
      (λ h. let m : max top more ≡ more = omega arith in rw m (greatest_new h))
      (λ h. let m : max top more ≡ top = omega arith in rw m (greatest_old h))
      (cases_lt top more)

pub greatest_small : (bs : List ℕ) (n top : ℕ) → Greatest bs n top → top < 256
greatest_small bs n top g = ⊎_elim (λ z. let h : top < 256 = omega arith in h) (λ y. let e = y.2 in let h : top < 256 = omega arith in h) g.here

-- one more than a byte, as bytes count, is at most q just when the byte is below q or 255
byte_below : (q b : ℕ) → b < 256 → known q b ≡ leb ((b + 1) % 256) q
unfolding known
byte_below q b h = bool_ext (known q b) (leb ((b + 1) % 256) q)
    (λ e. le-leb ((b + 1) % 256) q (⊎_elim (λ l. let n : (b + 1) % 256 ≤ q = omega arith in n) (λ z. let n : (b + 1) % 256 ≤ q = omega arith in n) (known-cases q b e)))
    (λ e. let l = leb-true ((b + 1) % 256) q e in go (eqb b 255) refl l)
  where
    go : (t : Bool) → eqb b 255 ≡ t → (b + 1) % 256 ≤ q → (ltb b q || t) ≡ true
    go true e l = or-true (ltb b q)
    go false e l = let d = eqb-false b 255 e in ap (λ (t : Bool). t || false) (lt-ltb b q (omega arith))

module _ (bs : List ℕ) (q n : ℕ) (long : 5 + n ≤ length bs) (bytes : Bytes bs) where
  pub all_known : (top : ℕ) → Greatest bs n top → leb top q ≡ all (known q) (part 5 n bs)
  all_known top g = bool_ext (leb top q) (all (known q) (part 5 n bs)) yes no
    where
      at : (j : ℕ) → j < n → known q (get_or (part 5 n bs) j 0) ≡ leb ((get_or bs (5 + j) 0 + 1) % 256) q
      at j h = ap (known q) (moves_byte n bs j h) ∙ byte_below q (get_or bs (5 + j) 0) (bytes (5 + j))

      yes : leb top q ≡ true → all (known q) (part 5 n bs) ≡ true
      yes e = in_all (known q) (part 5 n bs) (λ b m.
          let t = in_get_or (part 5 n bs) 0 m in
          let h : t.0 < n = subst (λ (l : ℕ). t.0 < l) (part_length 5 n bs long) t.1 in
          let l = leb-true top q e in
          let k = g.most t.0 h in
          ap (known q) (sym t.2) ∙ at t.0 h ∙ le-leb ((get_or bs (5 + t.0) 0 + 1) % 256) q (omega arith))

      no : all (known q) (part 5 n bs) ≡ true → leb top q ≡ true
      no e = ⊎_elim
          (λ z. le-leb top q (omega arith))
          (λ y.
          let m : y.0 < length (part 5 n bs) = subst (λ (s : ℕ). y.0 < s) (sym (part_length 5 n bs long)) y.1 in
          ap (λ (v : ℕ). leb v q) y.2 ∙ sym (at y.0 y.1) ∙ of-all (known q) e (get_or_in (part 5 n bs) y.0 0 m))
          g.here

-- ---- one automaton

module _ (k : ℕ) (bs : List ℕ) where
  pub not-whole : (Whole k bs → ⊥) → present (automaton k bs) ≡ false
  unfolding present
  not-whole h = go (automaton k bs) refl
    where
      go : (o : Option Automaton) → automaton k bs ≡ o → present o ≡ false
      go none e = refl
      go (some A) e = absurd (h (automaton-whole k bs A e).0)

  pub present-whole : present (automaton k bs) ≡ true → Whole k bs
  present-whole e = let t = of-present (automaton k bs) e in (automaton-whole k bs t.0 t.1).0

  -- q states with the accepting set a, where all but the moves is as it must be: the moves decide
  pub whole-by-moves : (q a : ℕ) → q ≡ state_count bs → a ≡ little (part 1 4 bs) → 1 ≤ q → q ≤ 32 → 5 + q * k ≤ length bs → none_from q a ≡ true
      → all (known q) (part 5 (q * k) bs) ≡ present (automaton k bs)
  unfolding automaton
  whole-by-moves q a e f h₁ h₂ h₃ z = sym (present-given _ _ ∙ rw (← e, ← f, le-leb 1 q h₁, le-leb q 32 h₂, le-leb (5 + q * k) (length bs) h₃, z) refl)

-- ---- several automata

-- the bytes behind the automaton at the head of these
abbrev behind : ℕ → List ℕ → List ℕ
behind k bs = drop (5 + state_count bs * k) bs

module _ (k : ℕ) where
  none_read : (n : ℕ) (bs : List ℕ) → present (automaton k bs) ≡ false → present (automata_in k (suc n) bs) ≡ false
  unfolding automata_in bind present
  none_read n bs e = rw (of_absent (automaton k bs) e) refl

  one-read : (n : ℕ) (bs : List ℕ) → present (automaton k bs) ≡ true → present (automata_in k (suc n) bs) ≡ present (automata_in k n (behind k bs))
  unfolding automata_in bind present given
  one-read n bs e = let t = of-present (automaton k bs) e in rw t.1 (go t.0 (automata_in k n (behind k bs)))
    where
      go : (A : Automaton) (o : Option (List Automaton)) → present (bind o (λ As. some (A ∷ As))) ≡ present o
      go A none = refl
      go A (some As) = refl

  -- the first of some automata, and the others
  first_read : (n : ℕ) (bs : List ℕ) (As : List Automaton) → automata_in k (suc n) bs ≡ some As
      → (Bs : List Automaton) × Whole k bs × (automata_in k n (behind k bs) ≡ some Bs) × (As ≡ machine k bs ∷ Bs)
  unfolding automata_in
  first_read n bs As e =
      let u = bind-some (automaton k bs) _ As e in
      let w = bind-some (automata_in k n (behind k bs)) _ As u.2 in
      let g = given-some true (u.0 ∷ w.0) As w.2 in
      let a = automaton-whole k bs u.0 u.1 in
      (w.0, a.0, w.1, g.1 ∙ ap (λ A. A ∷ w.0) a.1)

  -- no automaton: no byte
  none_left : (bs : List ℕ) (As : List Automaton) → automata_in k 0 bs ≡ some As → length bs ≡ 0
  unfolding automata_in
  none_left bs As e = eqb-true (length bs) 0 (given-some _ [] As e).0

  -- "exactly d automata"
  pub automata-count : (d : ℕ) (bs : List ℕ) (As : List Automaton) → automata_in k d bs ≡ some As → length As ≡ d
  unfolding automata_in
  automata-count zero bs As e = ap length (given-some _ [] As e).1
  automata-count (suc d) bs As e = let t = first_read d bs As e in ap length t.3 ∙ ap suc (automata-count d (behind k bs) t.0 t.2)

  -- the bytes alone say how many automata they are
  pub one-count : (d e : ℕ) (bs : List ℕ) (As Bs : List Automaton) → automata_in k d bs ≡ some As → automata_in k e bs ≡ some Bs → d ≡ e
  one-count zero zero bs As Bs p q = refl
  one-count zero (suc e) bs As Bs p q = absurd (omega (arith, none_left bs As p, (first_read e bs Bs q).1.long))
  one-count (suc d) zero bs As Bs p q = absurd (omega (arith, none_left bs Bs q, (first_read d bs As p).1.long))
  one-count (suc d) (suc e) bs As Bs p q =
      let t = first_read d bs As p in
      let u = first_read e bs Bs q in
      ap suc (one-count d e (behind k bs) t.0 u.0 t.2 u.2)

-- ---- the walk that tests

-- behind i of d automata, at byte `at`, what is left decides
pub record Walked (k d : ℕ) (bs : List ℕ) (i at : ℕ) : Type 0 where
  pub inside : at ≤ length bs
  pub left : present (automata_in k d bs) ≡ present (automata_in k (d - i) (drop at bs))

pub walked_none : (k d : ℕ) (bs : List ℕ) → Walked k d bs 0 0
walked_none k d bs =
    let n : d ≡ d - 0 = omega arith in
    record { inside = omega arith; left = ap (λ (m : ℕ). present (automata_in k m bs)) n }

-- one more is left
one_left : (d i : ℕ) → i < d → d - i ≡ suc (d - (i + 1))
one_left d i h = omega arith

module _ (k d : ℕ) (bs : List ℕ) (i at : ℕ) (walked : Walked k d bs i at) where
  pub walked_stop : i < d → present (automaton k (lent at bs)) ≡ false → present (automata_in k d bs) ≡ false
  walked_stop h e =
      walked.left
      ∙ ap (λ (n : ℕ). present (automata_in k n (drop at bs))) (one_left d i h)
      ∙ none_read k (d - (i + 1)) (drop at bs) (ap (λ (r : List ℕ). present (automaton k r)) (sym (rest-lent at bs)) ∙ e)

  pub walked_next : i < d → present (automaton k (lent at bs)) ≡ true → (s : ℕ) → s ≡ 5 + state_count (lent at bs) * k → Walked k d bs (i + 1) (at + s)
  walked_next h e s q =
      let here : present (automaton k (drop at bs)) ≡ true = ap (λ (r : List ℕ). present (automaton k r)) (sym (rest-lent at bs)) ∙ e in
      let w = present-whole k (drop at bs) here in
      let z : s ≡ 5 + state_count (drop at bs) * k = q ∙ ap (λ (r : List ℕ). 5 + state_count r * k) (rest-lent at bs) in
      record {
        inside = omega (arith, w.long, walked.inside, length-drop at bs);
        left = walked.left
            ∙ ap (λ (n : ℕ). present (automata_in k n (drop at bs))) (one_left d i h)
            ∙ one-read k (d - (i + 1)) (drop at bs) here
            ∙ ap (λ (r : List ℕ). present (automata_in k (d - (i + 1)) r)) (ap (λ (n : ℕ). drop n (drop at bs)) (sym z) ∙ drop-drop s at bs);
      }

  pub walked_end : d ≤ i → eqb at (length bs) ≡ present (automata_in k d bs)
  unfolding automata_in
  walked_end h =
      let n : d - i ≡ 0 = omega arith in
      sym (walked.left ∙ ap (λ (m : ℕ). present (automata_in k m (drop at bs))) n ∙ present-given (eqb (length (drop at bs)) 0) [] ∙ go (eqb at (length bs)) refl)
    where
      go : (t : Bool) → eqb at (length bs) ≡ t → eqb (length (drop at bs)) 0 ≡ t
      go true e = eq-eqb (length (drop at bs)) 0 (omega (arith, eqb-true at (length bs) e, length-drop at bs))
      go false e = ne_eqb (length (drop at bs)) 0 (λ z. eqb-false at (length bs) e (omega (arith, walked.inside, length-drop at bs)))

-- ---- the walk that counts

-- automaton j is the first at byte `at`
pub record Reached (k : ℕ) (bs : List ℕ) (j at : ℕ) : Type 0 where
  pub inside : at ≤ length bs
  pub left : (d : ℕ) (As : List Automaton) → automata_in k d bs ≡ some As → j ≤ d → automata_in k (d - j) (drop at bs) ≡ some (drop j As)

pub reached-none : (k : ℕ) (bs : List ℕ) → Reached k bs 0 0
reached-none k bs = record {
  inside = omega arith;
  left = λ d As e h.
      let n : d - 0 ≡ d = omega arith in
      ap (λ (m : ℕ). automata_in k m bs) n ∙ e;
}

first-reached : (k : ℕ) (bs : List ℕ) (j at : ℕ) → Reached k bs j at → (d : ℕ) (As : List Automaton) → automata_in k d bs ≡ some As → j < d
    → (Bs : List Automaton) × Whole k (drop at bs) × (automata_in k (d - (j + 1)) (behind k (drop at bs)) ≡ some Bs) × (drop j As ≡ machine k (drop at bs) ∷ Bs)
first-reached k bs j at reached d As e h =
    first_read k (d - (j + 1)) (drop at bs) (drop j As) (ap (λ (m : ℕ). automata_in k m (drop at bs)) (sym (one_left d j h)) ∙ reached.left d As e (omega arith))

-- automaton i is one of those that are counted
held-inside : (k : ℕ) (bs : List ℕ) (i : ℕ) (held : Held k bs i) → i < held.count
held-inside k bs i held = omega (arith, held.named, automata-count k held.count bs held.automata held.read)

module _ (k : ℕ) (bs : List ℕ) (i : ℕ) (held : Held k bs i) (j at : ℕ) (reached : Reached k bs j at) where
  whole-reached : j ≤ i → Whole k (drop at bs)
  whole-reached h = (first-reached k bs j at reached held.count held.automata held.read (omega (arith, held-inside k bs i held))).1

  pub lent-whole : j ≤ i → Whole k (lent at bs)
  lent-whole h = subst (Whole k) (sym (rest-lent at bs)) (whole-reached h)

  -- the next automaton starts behind this one, in the bytes
  pub lent-inside : j ≤ i → at + (5 + state_count (lent at bs) * k) ≤ length bs
  lent-inside h = rw (rest-lent at bs) (omega (arith, (whole-reached h).long, reached.inside, length-drop at bs))

  pub reached-next : j < i → (s : ℕ) → s ≡ 5 + state_count (lent at bs) * k → Reached k bs (j + 1) (at + s)
  reached-next h s q = record {
    inside = omega (arith, lent-inside (omega arith));
    left = λ d As e l.
        let t = first-reached k bs j at reached d As e (omega arith) in
        let z : drop s (drop at bs) ≡ behind k (drop at bs) = ap (λ (n : ℕ). drop n (drop at bs)) (q ∙ ap (λ (r : List ℕ). 5 + state_count r * k) (rest-lent at bs)) in
        let b : t.0 ≡ drop (j + 1) As = ap (λ l. drop 1 l) (sym t.3) ∙ drop-drop 1 j As in
        ap (automata_in k (d - (j + 1))) (sym (drop-drop s at bs) ∙ z) ∙ t.2 ∙ ap some b;
  }

pub reached-start : (k : ℕ) (bs : List ℕ) (i at : ℕ) → Held k bs i → Reached k bs i at → Starts k bs i at
reached-start k bs i at held r = record {
  inside = r.inside;
  whole = whole-reached k bs i held i at r (omega arith);
  found = λ d As e.
      let l : i < d = omega (arith, held-inside k bs i held, one-count k d held.count bs As held.automata e held.read) in
      let z : i + 0 ≡ i = omega arith in
      sym (get_or-drop i As 0 no_automaton ∙ ap (λ (n : ℕ). get_or As n no_automaton) z) ∙ ap (λ l. get_or l 0 no_automaton) (first-reached k bs i at r d As e l).3;
}

pub starts-lent : (k : ℕ) (bs : List ℕ) (i at : ℕ) → Starts k bs i at → Whole k (lent at bs)
starts-lent k bs i at s = subst (Whole k) (sym (rest-lent at bs)) s.whole
