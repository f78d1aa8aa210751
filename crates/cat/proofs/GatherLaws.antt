-- Cat over several lengths of the first string: the choices of one length more are gathered, and rows that have the support of all choices are the step.
-- Assumes nothing.
use mathlib.Core.Path.{◌≡◌, refl, sym, ap, ap₂, ◌∙◌}
use mathlib.Core.Logic.{⊎_elim}
use mathlib.Core.Bool.{Bool, true, false, cond, false≢true}
use mathlib.Core.List.{List, ◌∷◌, map}
use Prim.Native.Nat.{ℕ, zero, suc, ◌+◌, ◌-◌, ◌*◌, ◌/◌, ◌%◌, ◌^◌, ◌≤◌, ◌<◌}
use native.Mathlib.Omega.{arith}
use lib.Bits.{bit_and, bit_or, or_self, or_zero_l, or_zero_r}
use lib.Dec.{ltb}
use lib.ListN.{length, set, length-set, get_or-eq_default}
use lib.Seq.{ext_get_or, get_or-set_same, get_or-set_other}
use borrow.Author.Tests.{lt-ltb, le-ltb, ltb-true, ltb-false}
use Rattle.model.specs.Lists.{upto}
use Rattle.model.specs.Words.{bit, word, Words}
use Rattle.model.specs.Domains.{row}
use Rattle.words.specs.Ends.{Highest, Lowest}
use Rattle.rows.specs.Rows.{joined}
use Rattle.rows.proofs.Fill.{tabulated_length, tabulated_word}
use Rattle.rows.proofs.MeetLaws.{joined-or}
use Rattle.laws.proofs.WordLaws.{within_antisym, of-or-bit, or-bit-left, or-bit-right, sub_within}
use Rattle.laws.proofs.Supports.{or_words, or_words-length, or_words-word}
use Rattle.std.proofs.lemmas.Nat.{or_comm}
use Rattle.inplace.specs.InTable.{both, Meets}
use Rattle.inplace.specs.Adding.{Added}
use Rattle.inplace.proofs.Tables.{row_first, highest-most}
use Rattle.laws.proofs.ShiftLaws.{of-and-bit, bit-shr}
use Rattle.cat.specs.Splits.{Three, Split, Supported}
use Rattle.cat.specs.Strings.{Strings}
use Rattle.cat.specs.declared.Rows.{Rows}
use Rattle.cat.specs.Gathering.{Gathered, Advanced}
use Rattle.cat.proofs.CatLaws.{outside-next, outside-skip}
use Rattle.cat.proofs.SplitRow.{whole_row}
use Rattle.cat.proofs.SplitLaws.{r-begun, r-ended, top-z, empty-split, left_split, parts_supported}

-- ---- a row from its lengths and its first n places

first_places : ℕ → ℕ → (ℕ → ℕ) → List ℕ
first_places lengths n f = lengths ∷ map (λ i. cond (ltb i n) (f i) 0) (upto 63)

module _ (lengths n : ℕ) (f : ℕ → ℕ) (small : n < 64) where
  places-size : length (first_places lengths n f) ≡ 64
  unfolding first_places
  places-size = ap suc (tabulated_length (λ i. cond (ltb i n) (f i) 0) 63)

  places-first : word (first_places lengths n f) 0 ≡ lengths
  unfolding first_places
  places-first = refl

  places-word : (i : ℕ) → i < 63 → word (first_places lengths n f) (suc i) ≡ cond (ltb i n) (f i) 0
  unfolding first_places
  places-word i h = tabulated_word (λ i. cond (ltb i n) (f i) 0) 63 i h

  places-kept : (i : ℕ) → i < n → word (first_places lengths n f) (suc i) ≡ f i
  places-kept i h = places-word i (omega arith) ∙ rw (lt-ltb i n h)

  places-gone : (i : ℕ) → n ≤ i → word (first_places lengths n f) (suc i) ≡ 0
  places-gone i h = go (ltb i 63) refl
    where
      go : (t : Bool) → ltb i 63 ≡ t → word (first_places lengths n f) (suc i) ≡ 0
      go true q = places-word i (ltb-true i 63 q) ∙ rw (le-ltb i n h)
      go false q =
          let l = ltb-false i 63 q in
          let s = places-size in
          get_or-eq_default (first_places lengths n f) 0 (omega arith)

-- ---- unions

or-again : (a b : ℕ) → bit_or (bit_or a b) b ≡ bit_or a b
or-again a b = within_antisym (bit_or (bit_or a b) b) (bit_or a b) (λ c e. ⊎_elim (λ q. q) (or-bit-right a b c) (of-or-bit (bit_or a b) b c e))
    (or-bit-left (bit_or a b) b)

joined_is : (a s t : List ℕ) → length t ≡ 64 → word t 0 ≡ bit_or (word s 0) (word a 0) → ((i : ℕ) → word t (suc i) ≡ bit_or (word s (suc i)) (word a (suc i)))
    → t ≡ joined a s
joined_is a s t l e f = ext_get_or 0 t (or_words 64 a s) (l ∙ sym (or_words-length 64 a s))
    (elim [
      | zero ↦ λ h. e ∙ or_comm (word s 0) (word a 0) ∙ sym (or_words-word 64 a s 0 (omega arith))
      | suc i ↦ λ h. f i ∙ or_comm (word s (suc i)) (word a (suc i)) ∙ sym (or_words-word 64 a s (suc i) (omega arith))
    ])
    ∙ sym (joined-or a s)

-- ---- the choices of the least length of rest

-- the places that a length of the second string asks for lie in the rows
pub split-room : (T : List ℕ) (x y z p : ℕ) → Strings T x y z → (h : ℕ) → Highest (bit_and (word T (64 * z) / 2 ^ p) (word T (64 * y))) h
    → (64 * z + p + h < length T) × (64 * y + h < length T) × (p + h < 64)
split-room T x y z p s₃ h high =
    let t = of-and-bit (word T (64 * z) / 2 ^ p) (word T (64 * y)) h high.here in
    let k = highest-most (word (row T z) 0) s₃.tidy-z.top (p + h) s₃.tidy-z.longest
    (ap (λ (w : ℕ). bit w (p + h)) (row_first T z) ∙ sym (bit-shr (word T (64 * z)) p h) ∙ t.0) in
    let s = s₃.tidy-z.longest.small in
    let fy = s₃.fits-y in
    let fz = s₃.fits-z in
    (omega arith, omega arith, omega arith)

-- and so do those that a shorter one asks for
pub split-within : (w mask h top : ℕ) → Highest w h → Highest (bit_and w mask) top → top ≤ h
split-within w mask h top p q = highest-most w h top p (of-and-bit w mask top q.here).0

module _ (T : List ℕ) (x y z last p : ℕ) (s₃ : Strings T x y z) (bd : Words T) (small : p < 64) (rest : ℕ) (low : Lowest rest p) (R : Rows)
    (g : Gathered T x y z rest last R) where
  allowed : bit (word T (64 * x)) p ≡ true
  allowed = g.allowed p low.here

  -- a length that is left is greater
  later : (b : ℕ) → bit (rest - 2 ^ p) b ≡ true → (bit rest b ≡ true) × (p ≤ b)
  later b e = let k = sub_within rest p low.here b e in (k, go k (ltb b p) refl)
    where
      go : bit rest b ≡ true → (t : Bool) → ltb b p ≡ t → p ≤ b
      go k true q = absurd (false≢true (sym (low.below b (ltb-true b p q)) ∙ k))
      go k false q = ltb-false b p q

  -- no choice has p symbols in its first string
  gather-skip : ((v : Three) → Split (row T x) (row T y) (row T z) p v → ⊥) → Gathered T x y z (rest - 2 ^ p) last R
  gather-skip never = record {
    support = outside-skip (row T x) (row T y) (row T z) rest p low.here never R.x R.y R.z g.support;
    ahead = λ b e. g.ahead b (later b e).0;
    allowed = λ b e. g.allowed b (later b e).0;
    meeting = λ b e. g.meeting b (later b e).0;
    first = g.first;
    ended = g.ended;
    third = g.third;
  }

  abbrev cand : ℕ
  cand = bit_and (word T (64 * z) / 2 ^ p) (word T (64 * y))

  pub gather-empty : cand ≡ 0 → Gathered T x y z (rest - 2 ^ p) last R
  gather-empty e = gather-skip (empty-split T x y z p s₃ small allowed bd e)

  module _ (h : ℕ) (high : Highest cand h) (m : ℕ) (met : Meets T (64 * z + p) (64 * y) h m) (mask : ℕ) (em : mask ≡ 2 ^ (m + 1) - 1) where
    abbrev ok : ℕ
    ok = bit_and cand mask

    abbrev okz : ℕ
    okz = ok * 2 ^ p % 2 ^ 64

    pub gather_none : ok ≡ 0 → Gathered T x y z (rest - 2 ^ p) last R
    gather_none e = gather-skip (left_split T x y z p s₃ small allowed bd h high (g.meeting p low.here) m met mask em e)

    -- ---- the parts of the whole row are added to the three rows

    module _ (top : ℕ) (longest : Highest ok top) where
      abbrev r : List ℕ
      r = whole_row (row T x) (row T y) (row T z) p

      fits : p + top < 64
      fits = (top-z T x y z p s₃ small allowed bd h high (g.meeting p low.here) m met mask em top longest).small

      abbrev a : List ℕ
      a = first_places (2 ^ p) p (λ i. word r (suc i))

      abbrev b : List ℕ
      b = first_places ok top (λ i. word r (suc (p + i)))

      abbrev c : List ℕ
      c = first_places okz (p + top) (λ i. word r (suc i))

      parts : Supported (Split (row T x) (row T y) (row T z) p) a b c
      parts =
          let f = fits in
          parts_supported T x y z p s₃ small allowed bd h high (g.meeting p low.here) m met mask em top longest a b c
          (record { size = places-size _ _ _ small; first = places-first _ _ _ small; kept = places-kept _ _ _ small; gone = places-gone _ _ _ small })
          (record {
            size = places-size _ _ _ (omega arith);
            first = places-first _ _ _ (omega arith);
            kept = places-kept _ _ _ (omega arith);
            gone = places-gone _ _ _ (omega arith);
          })
          (record { size = places-size _ _ _ fits; first = places-first _ _ _ fits; kept = places-kept _ _ _ fits; gone = places-gone _ _ _ fits })

      -- what the first and the third string both allow
      abbrev begun : ℕ → ℕ
      begun i = both T (64 * z) (64 * x) i

      begun-is : (i : ℕ) → i < p → word r (suc i) ≡ begun i
      begun-is = r-begun T x y z p s₃ small allowed bd

      in_a : (i : ℕ) → i < p → word a (suc i) ≡ begun i
      in_a i l = places-kept (2 ^ p) p (λ n. word r (suc n)) small i l ∙ begun-is i l

      in_c : (i : ℕ) → i < p → word c (suc i) ≡ begun i
      in_c i l = places-kept okz (p + top) (λ n. word r (suc n)) fits i (omega arith) ∙ begun-is i l

      up : last ≤ p
      up = g.ahead p low.here

      -- a place between the last length and p
      between : (u v : List ℕ) → Added u last T (64 * z + last) (64 * x + last) (p - last) v → (i : ℕ) → last ≤ i → i < p
          → word v (suc i) ≡ bit_or (word u (suc i)) (begun i)
      between u v t i l k =
          let e : last + (i - last) ≡ i = omega arith in
          let ez : suc (64 * z + last + (i - last)) ≡ suc (64 * z + i) = omega arith in
          let ex : suc (64 * x + last + (i - last)) ≡ suc (64 * x + i) = omega arith in
          ap (λ (n : ℕ). word v (suc n)) (sym e) ∙ t.done (i - last) (omega arith)
          ∙ ap₂ bit_or (ap (λ (n : ℕ). word u (suc n)) e) (ap₂ (λ (m n : ℕ). bit_and (word T m) (word T n)) ez ex)

      -- a row with lengths more
      abbrev with : List ℕ → ℕ → List ℕ
      with u w = set u 0 (bit_or (word u 0) w)

      module _ (one : ℕ) (e₁ : one ≡ 2 ^ p) (Z : List ℕ) (S : Rows)
          (t₁ : Added (with R.x one) last T (64 * z + last) (64 * x + last) (p - last) S.x)
          (t₂ : Added (with R.y ok) 0 T (64 * z + p) (64 * y) top S.y)
          (t₃ : Added (with R.z okz) last T (64 * z + last) (64 * x + last) (p - last) Z)
          (t₄ : Added Z p T (64 * z + p) (64 * y) top S.z) where
        lx : length R.x ≡ 64
        lx = g.support.firsts.count

        ly : length R.y ≡ 64
        ly = g.support.seconds.count

        lz : length R.z ≡ 64
        lz = g.support.thirds.count

        lengths-of : (u : List ℕ) (w : ℕ) → length u ≡ 64 → word (with u w) 0 ≡ bit_or (word u 0) w
        lengths-of u w l = get_or-set_same u 0 (bit_or (word u 0) w) 0 (omega arith)

        places-of : (u : List ℕ) (w i : ℕ) → word (with u w) (suc i) ≡ word u (suc i)
        places-of u w i = get_or-set_other u 0 (suc i) (bit_or (word u 0) w) 0 (omega arith)

        place-x : (i : ℕ) → word S.x (suc i) ≡ bit_or (word R.x (suc i)) (word a (suc i))
        place-x i = go (ltb i last) (ltb i p) refl refl
          where
            old : word (with R.x one) (suc i) ≡ word R.x (suc i)
            old = places-of R.x one i

            go : (s t : Bool) → ltb i last ≡ s → ltb i p ≡ t → word S.x (suc i) ≡ bit_or (word R.x (suc i)) (word a (suc i))
            go true t q k =
                let l = ltb-true i last q in
                let v = up in
                t₁.before i l ∙ old ∙ sym (or_self (word R.x (suc i))) ∙ ap (bit_or (word R.x (suc i))) (g.first i l ∙ sym (in_a i (omega arith)))
            go false true q k =
                let l = ltb-true i p k in
                between (with R.x one) S.x t₁ i (ltb-false i last q) l ∙ ap₂ bit_or old (sym (in_a i l))
            go false false q k =
                let l = ltb-false i p k in
                let v = up in
                t₁.after i (omega arith) ∙ old ∙ sym (or_zero_r (word R.x (suc i)))
                ∙ ap (bit_or (word R.x (suc i))) (sym (places-gone (2 ^ p) p (λ n. word r (suc n)) small i l))

        place-y : (i : ℕ) → word S.y (suc i) ≡ bit_or (word R.y (suc i)) (word b (suc i))
        place-y i = go (ltb i top) refl
          where
            old : word (with R.y ok) (suc i) ≡ word R.y (suc i)
            old = places-of R.y ok i

            go : (t : Bool) → ltb i top ≡ t → word S.y (suc i) ≡ bit_or (word R.y (suc i)) (word b (suc i))
            go true q =
                let l = ltb-true i top q in
                let f = fits in
                let e : 0 + i ≡ i = omega arith in
                ap (λ (n : ℕ). word S.y (suc n)) (sym e) ∙ t₂.done i l
                ∙ ap₂ bit_or (ap (λ (n : ℕ). word (with R.y ok) (suc n)) e ∙ old)
                (sym (places-kept ok top (λ n. word r (suc (p + n))) (omega arith) i l ∙ r-ended T x y z p s₃ small allowed bd i (omega arith)))
            go false q =
                let l = ltb-false i top q in
                let f = fits in
                t₂.after i (omega arith) ∙ old ∙ sym (or_zero_r (word R.y (suc i)))
                ∙ ap (bit_or (word R.y (suc i))) (sym (places-gone ok top (λ n. word r (suc (p + n))) (omega arith) i l))

        place-z : (i : ℕ) → word S.z (suc i) ≡ bit_or (word R.z (suc i)) (word c (suc i))
        place-z i = go (ltb i last) (ltb i p) (ltb i (p + top)) refl refl refl
          where
            old : word (with R.z okz) (suc i) ≡ word R.z (suc i)
            old = places-of R.z okz i

            go : (s t u : Bool) → ltb i last ≡ s → ltb i p ≡ t → ltb i (p + top) ≡ u → word S.z (suc i) ≡ bit_or (word R.z (suc i)) (word c (suc i))
            go true t u q k d =
                let l = ltb-true i last q in
                let v = up in
                t₄.before i (omega arith) ∙ t₃.before i l ∙ old ∙ sym (g.third i l) ∙ ap (bit_or (word R.z (suc i))) (sym (in_c i (omega arith)))
            go false true u q k d =
                let l = ltb-true i p k in
                t₄.before i l ∙ between (with R.z okz) Z t₃ i (ltb-false i last q) l ∙ ap₂ bit_or old (sym (in_c i l))
            go false false true q k d =
                let l = ltb-false i p k in
                let n = ltb-true i (p + top) d in
                let f = fits in
                let v = up in
                let e : p + (i - p) ≡ i = omega arith in
                ap (λ (n : ℕ). word S.z (suc n)) (sym e) ∙ t₄.done (i - p) (omega arith)
                ∙ ap₂ bit_or (ap (λ (n : ℕ). word Z (suc n)) e ∙ t₃.after i (omega arith) ∙ old)
                (sym (r-ended T x y z p s₃ small allowed bd (i - p) (omega arith)) ∙ ap (λ (n : ℕ). word r (suc n)) e
                ∙ sym (places-kept okz (p + top) (λ n. word r (suc n)) fits i n))
            go false false false q k d =
                let l = ltb-false i p k in
                let n = ltb-false i (p + top) d in
                let v = up in
                t₄.after i n ∙ t₃.after i (omega arith) ∙ old ∙ sym (or_zero_r (word R.z (suc i)))
                ∙ ap (bit_or (word R.z (suc i))) (sym (places-gone okz (p + top) (λ n. word r (suc n)) fits i n))

        row-x : S.x ≡ joined a R.x
        row-x = joined_is a R.x S.x (t₁.size ∙ length-set R.x 0 (bit_or (word R.x 0) one) ∙ lx)
            (t₁.first ∙ lengths-of R.x one lx ∙ ap (bit_or (word R.x 0)) (e₁ ∙ sym (places-first (2 ^ p) p (λ n. word r (suc n)) small)))
            place-x

        row-y : S.y ≡ joined b R.y
        row-y = let f = fits in joined_is b R.y S.y (t₂.size ∙ length-set R.y 0 (bit_or (word R.y 0) ok) ∙ ly)
            (t₂.first ∙ lengths-of R.y ok ly ∙ ap (bit_or (word R.y 0)) (sym (places-first ok top (λ n. word r (suc (p + n))) (omega arith))))
            place-y

        row-z : S.z ≡ joined c R.z
        row-z = joined_is c R.z S.z (t₄.size ∙ t₃.size ∙ length-set R.z 0 (bit_or (word R.z 0) okz) ∙ lz)
            (t₄.first ∙ t₃.first ∙ lengths-of R.z okz lz ∙ ap (bit_or (word R.z 0)) (sym (places-first okz (p + top) (λ n. word r (suc n)) fits)))
            place-z

        pub gather-more : Gathered T x y z (rest - 2 ^ p) p S
        gather-more = record {
          support = rw (row-x, row-y, row-z) (outside-next (row T x) (row T y) (row T z) rest p low.here a b c R.x R.y R.z parts g.support);
          ahead = λ q e. (later q e).1;
          allowed = λ q e. g.allowed q (later q e).0;
          meeting = λ q e. g.meeting q (later q e).0;
          first = λ i l. place-x i ∙ ap (bit_or (word R.x (suc i))) (in_a i l) ∙ before i (ltb i last) refl;
          ended = λ i l. let v = up in
              place-x i ∙ ap₂ bit_or (g.ended i (omega arith)) (places-gone (2 ^ p) p (λ n. word r (suc n)) small i l) ∙ or_zero_l 0;
          third = λ i l. let e = place-z i ∙ ap (bit_or (word R.z (suc i))) (in_c i l) in
              ap (λ (n : ℕ). bit_or n (begun i)) e ∙ or-again (word R.z (suc i)) (begun i) ∙ sym e;
        }
          where
            before : (i : ℕ) (t : Bool) → ltb i last ≡ t → bit_or (word R.x (suc i)) (begun i) ≡ begun i
            before i true q = ap (λ (n : ℕ). bit_or n (begun i)) (g.first i (ltb-true i last q)) ∙ or_self (begun i)
            before i false q = ap (λ (n : ℕ). bit_or n (begun i)) (g.ended i (ltb-false i last q)) ∙ or_zero_l (begun i)

-- ---- what `split` ensures

module _ (T : List ℕ) (x y z last p : ℕ) (s₃ : Strings T x y z) (bd : Words T) (small : p < 64) (R : Rows) where
  pub split-empty : bit_and (word T (64 * z) / 2 ^ p) (word T (64 * y)) ≡ 0 → Advanced T x y z last p R last R
  split-empty e = record { more = λ rest low g. gather-empty T x y z last p s₃ bd small rest low R g e }

  module _ (h : ℕ) (high : Highest (bit_and (word T (64 * z) / 2 ^ p) (word T (64 * y))) h) (m : ℕ) (met : Meets T (64 * z + p) (64 * y) h m) (mask : ℕ)
      (em : mask ≡ 2 ^ (m + 1) - 1) where
    abbrev kept : ℕ
    kept = bit_and (bit_and (word T (64 * z) / 2 ^ p) (word T (64 * y))) mask

    pub split-none : kept ≡ 0 → Advanced T x y z last p R last R
    split-none e = record { more = λ rest low g. gather_none T x y z last p s₃ bd small rest low R g h high m met mask em e }

    pub split-some : (top : ℕ) → Highest kept top → (one : ℕ) → one ≡ 2 ^ p → (X Y Z₁ Z : List ℕ)
        → Added (set R.x 0 (bit_or (word R.x 0) one)) last T (64 * z + last) (64 * x + last) (p - last) X
        → Added (set R.z 0 (bit_or (word R.z 0) (kept * 2 ^ p % 2 ^ 64))) last T (64 * z + last) (64 * x + last) (p - last) Z₁
        → Added (set R.y 0 (bit_or (word R.y 0) kept)) 0 T (64 * z + p) (64 * y) top Y
        → Added Z₁ p T (64 * z + p) (64 * y) top Z
        → Advanced T x y z last p R p (record { x = X; y = Y; z = Z })
    split-some top longest one e X Y Z₁ Z t₁ t₃ t₂ t₄ = record {
      more = λ rest low g. gather-more T x y z last p s₃ bd small rest low R g h high m met mask em top longest one e Z₁ (record { x = X; y = Y; z = Z })
          t₁ t₂ t₃ t₄;
    }

-- ---- the turn of `gather`

pub gather-turn : (T : List ℕ) (x y z last p : ℕ) (R : Rows) (next : ℕ) (S : Rows) (rest one : ℕ) → one ≡ 2 ^ p → Advanced T x y z last p R next S
    → Lowest rest p
    → Gathered T x y z rest last R → Gathered T x y z (rest - one) next S
gather-turn T x y z last p R next S rest one e t low g = rw e (t.more rest low g)
