-- Rev by support: at one length, the strings of X that are one of Y read backwards are those of a row with what the places allow that face each other; and the
-- union of these rows. Assumes nothing.
use mathlib.Core.Path.{◌≡◌, refl, sym, ap, subst, ◌∙◌}
use mathlib.Core.Logic.{◌⊎◌, inl, inr, ⊎_elim}
use mathlib.Core.Bool.{Bool, true, false, cond, not, ◌&&◌, false≢true}
use mathlib.Core.List.{List, [], ◌++◌, map, reverse, reverse-reverse}
use Prim.Native.Nat.{ℕ, zero, suc, ◌-◌, ◌^◌, ◌≤◌, ◌<◌}
use native.Mathlib.Omega.{arith}
use lib.Bits.{bit_and}
use lib.Dec.{eqb, ltb}
use lib.ListN.{length, get_or, replicate, length-reverse, get_or-eq_default}
use borrow.Author.Tests.{lt-ltb, ltb-true, ltb-false, eqb-true, eq-eqb, ne_eqb}
use Rattle.model.specs.Lists.{same, upto}
use Rattle.model.specs.Words.{bit, word, Words}
use Rattle.model.specs.Constraints.{rev, variables, meets}
use Rattle.model.specs.Solutions.{text_bit}
use Rattle.model.specs.Support.{narrowed}
use Rattle.words.specs.Ends.{Highest}
use Rattle.rows.specs.Rows.{alone, trimmed}
use Rattle.rows.proofs.Fill.{tabulated_length, tabulated_word}
use Rattle.rows.proofs.TrimLaws.{trimmed-supports}
use Rattle.rows.proofs.TwoStrings.{Two, Met, two-narrowed}
use Rattle.laws.specs.Supported.{InRow, Supports}
use Rattle.laws.proofs.ListLaws.{same_true, same_refl, get_d_reverse}
use Rattle.laws.proofs.WordLaws.{zero_bit, pow-bit, pow_self, pow-only, bit-sub}
use Rattle.laws.proofs.ShiftLaws.{and-bit, of-and-bit}
use Rattle.laws.proofs.Supports.{moved-support, none-support}
use Rattle.inplace.specs.InTable.{Tidy}
use Rattle.inplace.proofs.Parts.{tidy-supports}
use Rattle.rev.specs.Turned.{Turned, Mirrored}

-- ---- one length

faced_at : List ℕ → List ℕ → ℕ → ℕ → ℕ
faced_at x y l zero = 2 ^ l
faced_at x y l (suc i) = cond (ltb i l) (bit_and (word x (suc i)) (word y (suc (l - suc i)))) 0

-- the row of length l alone, with what the first l places of x and of y read backwards both allow
pub faced : List ℕ → List ℕ → ℕ → List ℕ
faced x y l = map (faced_at x y l) (upto 64)

module _ (x y : List ℕ) (l : ℕ) (small : l < 64) where
  pub faced-length : length (faced x y l) ≡ 64
  unfolding faced
  faced-length = tabulated_length (faced_at x y l) 64

  pub faced-first : word (faced x y l) 0 ≡ 2 ^ l
  unfolding faced faced_at
  faced-first = tabulated_word (faced_at x y l) 64 0 (omega arith)

  pub faced-place : (i : ℕ) → i < l → word (faced x y l) (suc i) ≡ bit_and (word x (suc i)) (word y (suc (l - suc i)))
  unfolding faced faced_at
  faced-place i h = tabulated_word (faced_at x y l) 64 (suc i) (omega arith) ∙ rw (lt-ltb i l h)

  pub faced-past : (i : ℕ) → l ≤ i → word (faced x y l) (suc i) ≡ 0
  unfolding faced faced_at
  faced-past i h = go (ltb i 63) (ltb i l) refl refl
    where
      go : (s t : Bool) → ltb i 63 ≡ s → ltb i l ≡ t → word (faced x y l) (suc i) ≡ 0
      go true true p q = let k = ltb-true i l q in absurd (omega arith)
      go true false p q = let k = ltb-true i 63 p in tabulated_word (faced_at x y l) 64 (suc i) (omega arith) ∙ rw q
      go false t p q =
          let k = ltb-false i 63 p in
          let n = faced-length in
          get_or-eq_default (faced x y l) 0 (omega arith)

  module _ (bx : Words x) where
    pub faced-words : Words (faced x y l)
    faced-words zero b e = let d = pow-only l b (ap (λ (w : ℕ). bit w b) (sym faced-first) ∙ e) in omega arith
    faced-words (suc i) b e = go (ltb i l) refl
      where
        go : (t : Bool) → ltb i l ≡ t → b < 64
        go true q = bx (suc i) b (of-and-bit (word x (suc i)) (word y (suc (l - suc i))) b
            (ap (λ (w : ℕ). bit w b) (sym (faced-place i (ltb-true i l q))) ∙ e)).0
        go false q = absurd (false≢true (sym (zero_bit b) ∙ ap (λ (w : ℕ). bit w b) (sym (faced-past i (ltb-false i l q))) ∙ e))

    module _ (in_x : bit (word x 0) l ≡ true) (in_y : bit (word y 0) l ≡ true) where
      of-faced : (u : List ℕ) → InRow (faced x y l) u → Turned x y l u
      of-faced u i =
          let n : length u ≡ l = pow-only l (length u) (ap (λ (w : ℕ). bit w (length u)) (sym faced-first) ∙ i.length-bit) in
          let both : (j : ℕ) → j < l → (bit (word x (suc j)) (get_or u j 0) ≡ true) × (bit (word y (suc (l - suc j))) (get_or u j 0) ≡ true) = λ j h.
          of-and-bit (word x (suc j)) (word y (suc (l - suc j))) (get_or u j 0)
          (ap (λ (w : ℕ). bit w (get_or u j 0)) (sym (faced-place j h)) ∙ i.symbol-bits j (omega arith)) in
          let m : length (reverse u) ≡ l = length-reverse u ∙ n in
          record {
            own = record { length-bit = subst (λ (k : ℕ). bit (word x 0) k ≡ true) (sym n) in_x; symbol-bits = λ j h. (both j (omega arith)).0 };
            other = record {
              length-bit = subst (λ (k : ℕ). bit (word y 0) k ≡ true) (sym m) in_y;
              symbol-bits = λ k h.
                  let j : ℕ = length u - suc k in
                  let e : suc (l - suc j) ≡ suc k = omega arith in
                  rw (get_d_reverse u k (omega arith)) (ap (λ (a : ℕ). bit (word y a) (get_or u j 0)) (sym e) ∙ (both j (omega arith)).1);
            };
            long = n;
          }

      in_faced : (u : List ℕ) → Turned x y l u → InRow (faced x y l) u
      in_faced u t =
          let n = t.long in
          let m : length (reverse u) ≡ l = length-reverse u ∙ n in
          record {
            length-bit = ap (λ (w : ℕ). bit w (length u)) faced-first ∙ subst (λ (k : ℕ). bit (2 ^ l) k ≡ true) (sym n) (pow_self l);
            symbol-bits = λ k h.
                let j : ℕ = l - suc k in
                let e : get_or (reverse u) j 0 ≡ get_or u k 0 = get_d_reverse u j (omega arith) ∙ ap (λ (a : ℕ). get_or u a 0) (omega arith) in
                ap (λ (w : ℕ). bit w (get_or u k 0)) (faced-place k (omega arith)) ∙ and-bit (word x (suc k)) (word y (suc j)) (get_or u k 0)
                (t.own.symbol-bits k h)
                (subst (λ (a : ℕ). bit (word y (suc j)) a ≡ true) e (t.other.symbol-bits j (omega arith)));
          }

      pub faced-supports : (r : List ℕ) → Supports (InRow (faced x y l)) text_bit 64 r → Supports (Turned x y l) text_bit 64 r
      faced-supports r s = moved-support (InRow (faced x y l)) (Turned x y l) text_bit text_bit 64 r (λ u i. (u, of-faced u i, λ j h. refl))
          (λ u t. (u, in_faced u t, λ j h. refl)) s

      pub faced-trimmed : Supports (Turned x y l) text_bit 64 (trimmed (faced x y l))
      faced-trimmed = faced-supports (trimmed (faced x y l)) (trimmed-supports (faced x y l) faced-length faced-words)

      -- where each place allows something, every bit of the row is used
      pub faced-filled : ((i : ℕ) → i < l → 0 < word (faced x y l) (suc i)) → Supports (Turned x y l) text_bit 64 (faced x y l)
      faced-filled filled = faced-supports (faced x y l) (tidy-supports (faced x y l) tidy faced-words faced-length)
        where
          tidy : Tidy (faced x y l)
          tidy = record {
            top = l;
            longest = subst (λ (w : ℕ). Highest w l) (sym faced-first) (record
                { small = small; here = pow_self l; above = λ i h. pow-bit l i ∙ ne_eqb l i (λ e. omega arith) });
            filled = filled;
            gone = faced-past;
          }

      pub faced-empty : (i : ℕ) → i < l → word (faced x y l) (suc i) ≡ 0 → (u : List ℕ) → Turned x y l u → ⊥
      faced-empty i h z u t =
          let n = t.long in
          false≢true (sym (zero_bit (get_or u i 0)) ∙ ap (λ (w : ℕ). bit w (get_or u i 0)) (sym z) ∙ (in_faced u t).symbol-bits i (omega arith))

-- ---- all lengths

module _ (x y : List ℕ) where
  pub mirrored_none : (ls : ℕ) → ((n : ℕ) → bit (word x 0) n ≡ true → bit (word y 0) n ≡ true → bit ls n ≡ true)
      → Supports (Mirrored x y ls) text_bit 64 (replicate 64 0)
  mirrored_none ls all = none-support (Mirrored x y ls) text_bit 64 (λ u m.
      false≢true (sym m.done ∙ all (length u) m.own.length-bit (subst (λ (k : ℕ). bit (word y 0) k ≡ true) (length-reverse u) m.other.length-bit)))

  -- length l is done too
  pub mirrored_next : (rest l : ℕ) → bit rest l ≡ true → (r : List ℕ) → Supports (λ u. Mirrored x y rest u ⊎ Turned x y l u) text_bit 64 r
      → Supports (Mirrored x y (rest - 2 ^ l)) text_bit 64 r
  mirrored_next rest l e r s = moved-support (λ u. Mirrored x y rest u ⊎ Turned x y l u) (Mirrored x y (rest - 2 ^ l)) text_bit text_bit 64 r
      (λ u ok. (
        u,
        ⊎_elim
            (λ m. record { own = m.own; other = m.other; done = bit-sub rest l (length u) e ∙ rw m.done })
            (λ t. record {
              own = t.own;
              other = t.other;
              done = subst (λ (n : ℕ). bit (rest - 2 ^ l) n ≡ false) (sym t.long)
                  (bit-sub rest l l e ∙ rw (e, eq-eqb l l refl));
            })
            ok,
        λ j h. refl,
      ))
      (λ u m. (u, go u m (eqb l (length u)) refl, λ j h. refl)) s
    where
      go : (u : List ℕ) → Mirrored x y (rest - 2 ^ l) u → (t : Bool) → eqb l (length u) ≡ t → Mirrored x y rest u ⊎ Turned x y l u
      go u m true q = inr (record { own = m.own; other = m.other; long = sym (eqb-true l (length u) q) })
      go u m false q = inl (record {
        own = m.own;
        other = m.other;
        done = at (bit rest (length u))
            (sym (ap (λ (t : Bool). bit rest (length u) && not t) q) ∙ sym (bit-sub rest l (length u) e) ∙ m.done);
      })
        where
          at : (b : Bool) → (b && true) ≡ false → b ≡ false
          at true k = absurd (false≢true (sym k))
          at false k = refl

  -- there is one length alone
  pub mirrored_one : (l : ℕ) → ((n : ℕ) → bit (word x 0) n ≡ true → bit (word y 0) n ≡ true → n ≡ l) → (r : List ℕ) → Supports (Turned x y l) text_bit 64 r
      → Supports (Mirrored x y 0) text_bit 64 r
  mirrored_one l one r s = moved-support (Turned x y l) (Mirrored x y 0) text_bit text_bit 64 r
      (λ u t. (u, record { own = t.own; other = t.other; done = zero_bit (length u) }, λ j h. refl))
      (λ u m. (
        u,
        record {
          own = m.own;
          other = m.other;
          long = one (length u) m.own.length-bit (subst (λ (k : ℕ). bit (word y 0) k ≡ true) (length-reverse u) m.other.length-bit);
        },
        λ j h. refl,
      )) s

-- ---- both rows

module _ (x y : List ℕ) (lx : length x ≡ 64) (ly : length y ≡ 64) (bx : Words x) (bY : Words y) where
  -- a string of each row, the first of which is the second read backwards
  abbrev Pair : Two → Type 0
  Pair p = Met (λ u v. same u (reverse v)) x y p

  backwards_of : (p : Two) → Pair p → p.first ≡ reverse p.second
  backwards_of p m = same_true p.first (reverse p.second) m.meeting

  first-supports : (r : List ℕ) → Supports (Mirrored x y 0) text_bit 64 r → Supports Pair (λ p. text_bit p.first) 64 r
  first-supports r s = moved-support (Mirrored x y 0) Pair text_bit (λ p. text_bit p.first) 64 r
      (λ u m. (
        record { first = u; second = reverse u },
        record { in_first = m.own; in_second = m.other; meeting = subst (λ (v : List ℕ). same u v ≡ true) (sym (reverse-reverse u)) (same_refl u) },
        λ j h. refl,
      ))
      (λ p m.
      let q : p.second ≡ reverse p.first = sym (reverse-reverse p.second) ∙ ap reverse (sym (backwards_of p m)) in
      (p.first, record { own = m.in_first; other = subst (InRow y) q m.in_second; done = zero_bit (length p.first) }, λ j h. refl))
      s

  second-supports : (r : List ℕ) → Supports (Mirrored y x 0) text_bit 64 r → Supports Pair (λ p. text_bit p.second) 64 r
  second-supports r s = moved-support (Mirrored y x 0) Pair text_bit (λ p. text_bit p.second) 64 r
      (λ u m. (record { first = reverse u; second = u }, record { in_first = m.other; in_second = m.own; meeting = same_refl (reverse u) }, λ j h. refl))
      (λ p m.
      (p.second, record { own = m.in_second; other = subst (InRow x) (backwards_of p m) m.in_first; done = zero_bit (length p.second) }, λ j h. refl))
      s

  pub rev-narrowed : (rx ry : List ℕ) → Supports (Mirrored x y 0) text_bit 64 rx → Supports (Mirrored y x 0) text_bit 64 ry
      → rx ++ ry ≡ narrowed (alone 2 0 []) (rev 0 1) (x ++ y)
  unfolding variables meets
  rev-narrowed rx ry sx sy = two-narrowed (rev 0 1) (λ u v. same u (reverse v)) refl (λ α. refl) x y lx ly bx bY rx ry (first-supports rx sx)
      (second-supports ry sy)
