-- Strings of a spelling, index by index; and that the durations of every version are of one. Assumes nothing.
use mathlib.Core.Path.{◌≡◌, refl, sym, ap, subst, ◌∙◌, fun_ext}
use mathlib.Core.Logic.{◌≢◌, ⊎_elim}
use mathlib.Core.Bool.{Bool, true, false, ◌&&◌, ◌||◌, true≢false}
use mathlib.Core.List.{List}
use Prim.Native.Nat.{ℕ, suc, ◌+◌, ◌-◌, ◌<◌, ◌≤◌}
use native.Mathlib.Omega.{arith}
use lib.Dec.{eqb, leb, ltb}
use lib.ListN.{length, get_or, take, drop, length-drop}
use lib.Seq.{length-take-le, get_or-take, get_or-drop}
use borrow.Author.Tests.{eqb-true, eq-eqb, leb-true, le-leb, ltb-true, ltb-false, lt-ltb, le-ltb}
use Rattle.model.specs.Lists.{any, all, upto}
use Rattle.model.specs.Words.{bit}
use Rattle.laws.proofs.ListLaws.{of-any, in_any, of-all, in_all, of-upto, in_upto, get_or_in, in_get_or, and_true, true_and, or_true}
use Rattle.laws.proofs.WordLaws.{zero_bit, pow_self, pow-only, bool_ext}
use Rattle.laws.proofs.CollectLaws.{any_none}
use Rattle.laws.proofs.ShiftLaws.{bit_mask, Order, less, same, more, order}
use Rattle.duration.specs.Durations.{is_digit, digits, point_at, is_duration}
use Rattle.duration.specs.Spelling.{parted_at, is_spelled}

-- ---- digits

pub digit-bit : (a : ℕ) → a < 10 → bit 1023 a ≡ true
digit-bit a h = bit_mask 10 a ∙ lt-ltb a 10 h

pub bit-digit : (a : ℕ) → bit 1023 a ≡ true → a < 10
bit-digit a e = ltb-true a 10 (sym (bit_mask 10 a) ∙ e)

of-digits : (w : List ℕ) → digits w ≡ true → (1 ≤ length w) × ((j : ℕ) → j < length w → get_or w j 0 < 10)
unfolding digits is_digit
of-digits w e =
    let t = and_true (leb 1 (length w)) (all is_digit w) e in
    (leb-true 1 (length w) t.0, λ j h. ltb-true (get_or w j 0) 10 (of-all is_digit t.1 (get_or_in w j 0 h)))

to-digits : (w : List ℕ) → 1 ≤ length w → ((j : ℕ) → j < length w → get_or w j 0 < 10) → digits w ≡ true
unfolding digits is_digit
to-digits w s f =
    true_and (le-leb 1 (length w) s)
    (in_all is_digit w (λ a m. let t = in_get_or w 0 m in lt-ltb a 10 (subst (λ (b : ℕ). b < 10) t.2 (f t.0 t.1))))

-- ---- a string of a spelling

-- where its point is, or past its end where it has none; all else is digits
pub record Spelled (most points : ℕ) (w : List ℕ) : Type 0 where
  pub some : 1 ≤ length w
  pub short : length w ≤ most
  pub point : ℕ
  pub digit : (j : ℕ) → j < length w → j ≢ point → get_or w j 0 < 10
  pub between : point < length w → (1 ≤ point) × (suc point < length w) × (bit points (get_or w point 0) ≡ true)

module _ (most points : ℕ) (w : List ℕ) where
  of-parted : (i : ℕ) → i < length w → parted_at points w i ≡ true → length w ≤ most → Spelled most points w
  unfolding parted_at
  of-parted i h e short =
      let t = and_true _ (digits (drop (i + 1) w)) e in
      let u = and_true (digits (take i w)) (bit points (get_or w i 0)) t.0 in
      let front = of-digits (take i w) u.0 in
      let back = of-digits (drop (i + 1) w) t.1 in
      let m : length (take i w) ≡ i = length-take-le i w (omega arith) in
      let n = length-drop (i + 1) w in
      let f = front.0 in
      let b = back.0 in
      record {
        some = omega arith;
        short = short;
        point = i;
        digit = λ j k ne. go front back m n j k ne (order j i);
        between = λ k. (omega arith, omega arith, u.1);
      }
    where
      go : (1 ≤ length (take i w)) × ((j : ℕ) → j < length (take i w) → get_or (take i w) j 0 < 10)
          → (1 ≤ length (drop (i + 1) w)) × ((j : ℕ) → j < length (drop (i + 1) w) → get_or (drop (i + 1) w) j 0 < 10)
          → length (take i w) ≡ i → length (drop (i + 1) w) ≡ length w - (i + 1) → (j : ℕ) → j < length w → j ≢ i → Order j i → get_or w j 0 < 10
      go front back m n j k ne (less l) = subst (λ (a : ℕ). a < 10) (get_or-take i w j 0 l) (front.1 j (omega arith))
      go front back m n j k ne (same q) = absurd (ne q)
      go front back m n j k ne (more l) =
          let z : i + 1 + (j - (i + 1)) ≡ j = omega arith in
          subst (λ (a : ℕ). a < 10) (get_or-drop (i + 1) w (j - (i + 1)) 0 ∙ ap (λ (a : ℕ). get_or w a 0) z) (back.1 (j - (i + 1)) (omega arith))

  pub of-spelled : is_spelled most points w ≡ true → Spelled most points w
  unfolding is_spelled
  of-spelled e =
      let t = and_true (leb (length w) most) _ e in
      let short = leb-true (length w) most t.0 in
      ⊎_elim
      (λ d.
      let u = of-digits w d in
      record { some = u.0; short = short; point = length w; digit = λ j h n. u.1 j h; between = λ h. absurd (omega arith) })
      (λ p. let q = of-any (parted_at points w) (upto (length w)) p in of-parted q.0 (of-upto (length w) q.1) q.2 short)
      (or_true (digits w) _ t.1)

  pub to-spelled : Spelled most points w → is_spelled most points w ≡ true
  unfolding is_spelled parted_at
  to-spelled s = true_and (le-leb (length w) most s.short) (go (ltb s.point (length w)) refl)
    where
      or_right : (a b : Bool) → b ≡ true → (a || b) ≡ true
      or_right true b e = refl
      or_right false b e = e

      go : (b : Bool) → ltb s.point (length w) ≡ b → (digits w || any (parted_at points w) (upto (length w))) ≡ true
      go false q =
          let h = ltb-false s.point (length w) q in
          rw (to-digits w s.some (λ j l. s.digit j l (λ e. omega arith)))
      go true q =
          let h = ltb-true s.point (length w) q in
          let t = s.between h in
          let m : length (take s.point w) ≡ s.point = length-take-le s.point w (omega arith) in
          let n = length-drop (s.point + 1) w in
          let a = t.0 in
          let b = t.1 in
          or_right (digits w) _ (in_any (parted_at points w) (in_upto (length w) s.point h)
          (true_and (true_and
          (to-digits (take s.point w) (omega arith) (λ j l. subst (λ (c : ℕ). c < 10) (sym (get_or-take s.point w j 0 (omega arith))) (s.digit j (omega arith) (λ e. omega arith))))
          t.2)
          (to-digits (drop (s.point + 1) w) (omega arith) (λ j l. subst (λ (c : ℕ). c < 10) (sym (get_or-drop (s.point + 1) w j 0)) (s.digit (s.point + 1 + j) (omega arith) (λ e. omega arith))))))

-- ---- the spelling of a version

-- "For 1 and 2, X is 1 to 20 digits.": there is no point
pub whole-spelled : (v : ℕ) → v < 3 → (w : List ℕ) → is_duration v w ≡ is_spelled 20 0 w
unfolding is_duration is_spelled parted_at
whole-spelled v h w = rw (lt-ltb v 3 h) (go (digits w) (leb (length w) 20) _ (any_none (parted_at 0 w) (upto (length w)) (λ i m. no-point i)))
  where
    no-point : (i : ℕ) → parted_at 0 w i ≡ false
    no-point i = rw (zero_bit (get_or w i 0)) (at (digits (take i w)) (digits (drop (i + 1) w)))
      where
        at : (a b : Bool) → (a && false && b) ≡ false
        at true b = refl
        at false b = refl

    go : (a b c : Bool) → c ≡ false → (a && b) ≡ (b && (a || c))
    go a b true e = absurd (true≢false e)
    go true true false e = refl
    go true false false e = refl
    go false true false e = refl
    go false false false e = refl

-- "From 3 on, X is one or more digits, then optionally symbol 10 and one or more digits.": any length that a string can have will do
pub parted-spelled : (v : ℕ) → 3 ≤ v → (w : List ℕ) → length w < 64 → is_duration v w ≡ is_spelled 63 1024 w
unfolding is_duration is_spelled point_at parted_at
parted-spelled v h w l =
    rw (le-ltb v 3 h, le-leb (length w) 63 (omega arith))
    (ap (λ (f : ℕ → Bool). digits w || any f (upto (length w))) (fun_ext point-parted))
  where
    ten : (a : ℕ) → eqb a 10 ≡ bit 1024 a
    ten a = bool_ext (eqb a 10) (bit 1024 a) (λ e. ap (bit 1024) (eqb-true a 10 e) ∙ pow_self 10) (λ e. eq-eqb a 10 (pow-only 10 a e))

    point-parted : (i : ℕ) → point_at w i ≡ parted_at 1024 w i
    point-parted i = ap (λ (b : Bool). digits (take i w) && b && digits (drop (i + 1) w)) (ten (get_or w i 0))
