-- What the functions of `room` leave in its tables. Assumes nothing.
use mathlib.Core.Path.{◌≡◌, refl, sym, ap, ap₂, subst, ◌∙◌}
use mathlib.Core.Logic.{◌⊎◌, ⊎_elim}
use mathlib.Core.List.{List, [], ◌∷◌, ◌++◌, map, append-nil, append_assoc}
use Prim.Native.Nat.{ℕ, suc, ◌+◌, ◌-◌, ◌*◌, ◌^◌, ◌≤◌, ◌<◌}
use native.Mathlib.Numerals.{add-one}
use native.Mathlib.Omega.{arith}
use lib.ListN.{length, set, take, drop, replicate, length-append, length-set, length-drop, length-replicate, drop_of_length-le, take-append-drop}
use lib.Seq.{get_or-take, get_or-drop, length-take-le, take_all, take_at, take-suc-set, drop_at, drop-drop, drop-cons, set_at, append_snoc}
use Rattle.model.specs.Words.{word}
use Rattle.model.specs.Layout.{little}
use Rattle.model.specs.Reading.{pieces}
use Rattle.laws.specs.Traversal.{base}
use Rattle.laws.proofs.SliceLaws.{replaced, replaced-length, Copied, copied_step, copied_rest, copied_front}
use Rattle.laws.proofs.LayoutLaws.{part_length}
use Rattle.laws.proofs.ReadingLaws.{table-length, table-drop}
use Rattle.room.specs.Tables.{table_at, Tables, within, Chosen, Down, Sibling, Restart}
use Rattle.room.proofs.TableAtLaws.{tables-of, table_at-word, table_at-length, lent-part, set-current, set-waiting, lent-current, lent-kept, lent-waiting}
use Rattle.room.proofs.TableAtLaws.{copied_kept, copied_current, begun-current, begun-front}

-- the table that a file's bytes stand for
abbrev file_table : ℕ → List ℕ → List ℕ
file_table m bytes = map little (pieces m 8 bytes)

-- ---- words copied within one slice

module _ (from to n : ℕ) (R : List ℕ) (there : from + n ≤ length R) (fits : to + n ≤ length R) where
  -- the slice up to the end of what is stored
  abbrev source : List ℕ
  source = take to R ++ take n (drop from R)

  front : length (take to R) ≡ to
  front = length-take-le to R (omega arith)

  source-length : length source ≡ to + n
  source-length = omega (arith, length-append (take to R) (take n (drop from R)), front, part_length from n R there)

  source-word : (i : ℕ) → i < n → word source (to + i) ≡ word R (from + i)
  source-word i h = sym (get_or-drop to source i 0) ∙ ap (λ (l : List ℕ). word l i) (drop_at (take to R) (take n (drop from R)) to front)
      ∙ get_or-take n (drop from R) i 0 h ∙ get_or-drop from R i 0

  source-front : take to source ≡ take to R
  source-front = take_at (take to R) (take n (drop from R)) to front

  pub within-start : Copied source R (to + 0) R
  within-start =
      let z : to ≡ to + 0 = omega arith in
      subst (λ (k : ℕ). Copied source R k R) z
      (record { size = refl; words = sym (take-append-drop to R) ∙ ap (λ (l : List ℕ). l ++ drop to R) (sym source-front) })

  module _ (i : ℕ) (U : List ℕ) (h : i < n) (c : Copied source R (to + i) U) where
    -- the words before those that are stored have not moved
    before-word : (j : ℕ) → j < to → word U j ≡ word R j
    before-word j g =
        let l = source-length in
        let e : take (to + i) U ≡ take (to + i) source =
        ap (take (to + i)) c.words ∙ take_at (take (to + i) source) (drop (to + i) R) (to + i) (length-take-le (to + i) source (omega arith)) in
        sym (get_or-take (to + i) U j 0 (omega arith)) ∙ ap (λ (x : List ℕ). word x j) e ∙ get_or-take (to + i) source j 0 (omega arith)
        ∙ sym (get_or-take to source j 0 g) ∙ ap (λ (x : List ℕ). word x j) source-front ∙ get_or-take to R j 0 g

    -- nor has the word that is read
    read_word : (to ≤ from) ⊎ (from + n ≤ to) → word U (from + i) ≡ word R (from + i)
    read_word = ⊎_elim
        (λ l. copied_rest source R (to + i) U (omega (arith, source-length)) c (from + i) (omega arith))
        (λ l. before-word (from + i) (omega arith))

    pub within_step : (to ≤ from) ⊎ (from + n ≤ to) → Copied source R (to + (i + 1)) (set U (to + i) (word U (from + i)))
    within_step apart =
        let e : to + i + 1 ≡ to + (i + 1) = omega arith in
        subst (λ (k : ℕ). Copied source R k (set U (to + i) (word U (from + i)))) e
        (copied_step source R (to + i) U (word U (from + i)) (omega (arith, source-length)) (omega arith)
        (read_word apart ∙ sym (source-word i h)) c)

  pub within_end : (i : ℕ) (U : List ℕ) → i ≡ n → Copied source R (to + i) U → U ≡ within from to n R
  unfolding within
  within_end i U e c =
      let k : to + i ≡ length source = omega (arith, source-length) in
      copied_front source R (to + i) U k c ∙ ap (λ (j : ℕ). source ++ drop j R) source-length
      ∙ append_assoc (take to R) (take n (drop from R)) (drop (to + n) R)
      ∙ ap (λ (l : List ℕ). take to R ++ (take n (drop from R) ++ l)) (sym (drop-drop n to R))

within-length : (from to n : ℕ) (R : List ℕ) → from + n ≤ length R → to + n ≤ length R → length (within from to n R) ≡ length R
unfolding within replaced
within-length from to n R h l = replaced-length R to n (take n (drop from R)) (part_length from n R h ∙ sym (part_length to n R l))

-- ---- the root

pub start-tables : (m : ℕ) (bytes R cur held alt : List ℕ) → 3 * m ≤ length R
    → cur ≡ file_table (length (take m R)) bytes
    → held ≡ file_table (length (take (2 * m - m) (drop m (replaced R 0 m cur)))) bytes
    → alt ≡ replicate (length (take (3 * m - 2 * m) (drop (2 * m) (replaced (replaced R 0 m cur) m (2 * m - m) held)))) 0
    → Tables m (replaced (replaced (replaced R 0 m cur) m (2 * m - m) held) (2 * m) (3 * m - 2 * m) alt)
    (file_table m bytes) (file_table m bytes) (replicate m 0) (drop (3 * m) R)
start-tables m bytes R cur held alt h e₁ e₂ e₃ =
    let F : List ℕ = file_table m bytes in
    let R₁ : List ℕ = replaced R 0 m cur in
    let R₂ : List ℕ = replaced R₁ m (2 * m - m) held in
    let n₁ : 2 * m - m ≡ m = omega arith in
    let n₂ : 3 * m - 2 * m ≡ m = omega arith in
    let c : cur ≡ F = e₁ ∙ ap (λ (n : ℕ). file_table n bytes) (length-take-le m R (omega arith)) in
    let l₁ : length R₁ ≡ length R = replaced-length R 0 m cur (ap length e₁ ∙ table-length (length (take m R)) bytes) in
    let d : held ≡ F = e₂ ∙ ap (λ (n : ℕ). file_table n bytes) (part_length m (2 * m - m) R₁ (omega arith) ∙ n₁) in
    let l₂ : length R₂ ≡ length R₁ = replaced-length R₁ m (2 * m - m) held (ap length e₂ ∙ table-length (length (take (2 * m - m) (drop m R₁))) bytes) in
    let a : alt ≡ replicate m 0 = e₃ ∙ ap (λ (n : ℕ). replicate n 0) (part_length (2 * m) (3 * m - 2 * m) R₂ (omega arith) ∙ n₂) in
    let t₁ = lent-current m R _ _ _ _ (tables-of m R) cur h (ap length c ∙ table-length m bytes) in
    let t₂ = lent-kept m R₁ _ _ _ _ t₁ held (omega arith) (ap length d ∙ table-length m bytes) in
    let t₃ = lent-waiting m R₂ _ _ _ _ t₂ alt (omega arith) (ap length a ∙ length-replicate {A = ℕ} m 0) in
    record { current = t₃.current ∙ c; kept = t₃.kept ∙ d; waiting = t₃.waiting ∙ a; beyond = t₃.beyond }

-- ---- a decision: word `at` of T is stored, and the words past it are lent, with the bytes that stand for them

lent-rest : (a : ℕ) (l : List ℕ) → take (length l - a) (drop a l) ≡ drop a l
lent-rest a l = take_all (length l - a) (drop a l) (omega (arith, length-drop a l))

-- the length stays where a word is stored and then a part lent
pub lent_length : (R : List ℕ) (i v a n : ℕ) (ys : List ℕ) → length ys ≡ length (take n (drop a (set R i v))) → length (replaced (set R i v) a n ys) ≡ length R
lent_length R i v a n ys e = replaced-length (set R i v) a n ys e ∙ length-set R i v

module _ (at v : ℕ) (bytes T : List ℕ) (e : length bytes ≡ 8 * length T) (h : at < length T) where
  -- the words, and the bytes
  abbrev words : List ℕ
  words = take (length (set T at v) - (at + 1)) (drop (at + 1) (set T at v))

  abbrev rest : List ℕ
  rest = take (length bytes - 8 * (at + 1)) (drop (8 * (at + 1)) bytes)

  words-length : length words ≡ length T - (at + 1)
  words-length = ap length (lent-rest (at + 1) (set T at v)) ∙ length-drop (at + 1) (set T at v) ∙ ap (λ (i : ℕ). i - (at + 1)) (length-set T at v)

  pub rest-there : length rest ≡ 8 * length words
  rest-there = omega (arith, words-length, ap length (lent-rest (8 * (at + 1)) bytes), length-drop (8 * (at + 1)) bytes)

  -- they are the file's
  rest-table : file_table (length words) rest ≡ drop (suc at) (file_table (length T) bytes)
  rest-table =
      let n : at + 1 + (length T - (at + 1)) ≡ length T = omega arith in
      ap₂ file_table words-length (lent-rest (8 * (at + 1)) bytes) ∙ table-drop (at + 1) (length T - (at + 1)) bytes
      ∙ ap₂ (λ (i j : ℕ). drop i (file_table j bytes)) (add-one at) n

  pub decide-right : (ys : List ℕ) → ys ≡ file_table (length words) rest
      → replaced (set T at v) (at + 1) (length (set T at v) - (at + 1)) ys ≡ set (base (file_table (length T) bytes) T at) at v
  unfolding replaced base
  decide-right ys unpacked =
      let F : List ℕ = file_table (length T) bytes in
      let front : take (at + 1) (set T at v) ≡ take at T ++ (v ∷ []) = ap (λ (i : ℕ). take i (set T at v)) (add-one at) ∙ take-suc-set T at v h in
      let past : List ℕ = drop (at + 1) (set T at v) in
      let n : ℕ = length (set T at v) - (at + 1) in
      let none : drop n past ≡ [] = drop_of_length-le past {i = n} (omega (arith, length-drop (at + 1) (set T at v))) in
      let file : ys ≡ drop (suc at) F = unpacked ∙ rest-table in
      rw (front, none, file) (
      ap (λ (r : List ℕ). take at T ++ (v ∷ []) ++ r) (append-nil (drop (suc at) F)) ∙ append_snoc (take at T) v (drop (suc at) F)
      ∙ sym (ap (λ (r : List ℕ). set (take at T ++ r) at v) (drop-cons F at 0 (omega (arith, table-length (length T) bytes)))
      ∙ set_at (take at T) (word F at) (drop (suc at) F) v at (length-take-le at T (omega arith))))

-- ---- the moves: a value was chosen, which leaves R₁ with s for it, and words were copied in that, which leaves R₂

chosen_tables : (m at from s : ℕ) (R R₁ : List ℕ) → at < m → Chosen from (2 * m + at) R R₁ s
    → Tables m R₁ (table_at m 0 R) (table_at m 1 R) (set (table_at m 2 R) at (word R from - s)) (drop (3 * m) R)
chosen_tables m at from s R R₁ h c = rw c.left (set-waiting m R _ _ _ _ (tables-of m R) at (word R from - s) h)

chosen_length : (from to s : ℕ) (R R₁ : List ℕ) → Chosen from to R R₁ s → length R₁ ≡ length R
chosen_length from to s R R₁ c = ap length c.left ∙ length-set R to (word R from - s)

-- the word of a table from which it was chosen
chosen_word : (m q at from : ℕ) (R : List ℕ) → at < m → from ≡ m * q + at → word R from ≡ word (table_at m q R) at
chosen_word m q at from R h e = ap (word R) e ∙ sym (table_at-word m q at R h)

base-length : (F T : List ℕ) (at : ℕ) → at ≤ length T → length F ≡ length T → length (base F T at) ≡ length T
unfolding base
base-length F T at h e = omega (arith, length-append (take at T) (drop at F), length-take-le at T h, length-drop at F)

-- only the words before `at` are looked at
base-front : (F T U : List ℕ) (at : ℕ) → take at T ≡ take at U → base F T at ≡ base F U at
unfolding base
base-front F T U at e = ap (λ (l : List ℕ). l ++ drop at F) e

module _ (m at s : ℕ) (R R₁ R₂ : List ℕ) (fits : 3 * m ≤ length R) (h : at < m) where
  module _ (c : Chosen at (2 * m + at) R R₁ s) (copied : R₂ ≡ within 0 m m R₁) where
    pub down-right : Down m at R (set R₂ at s)
    down-right =
        let w : word R at ≡ word (table_at m 0 R) at = chosen_word m 0 at at R h (omega arith) in
        let p : word R at - s ≡ word (table_at m 0 R) at - 2 ^ c.value = ap₂ (λ (x y : ℕ). x - y) w c.power in
        let l = chosen_length at (2 * m + at) s R R₁ c in
        let t₂ = copied_kept m R₁ _ _ _ _ (chosen_tables m at at s R R₁ h c) (omega arith) in
        let t₃ = set-current m (within 0 m m R₁) _ _ _ _ t₂ at s h in
        rw copied (record {
          value = c.value;
          lowest = rw (← w) c.lowest;
          tables = record {
            current = t₃.current ∙ ap (set (table_at m 0 R) at) c.power;
            kept = t₃.kept;
            waiting = t₃.waiting ∙ ap (set (table_at m 2 R) at) p;
            beyond = t₃.beyond;
          };
        })

  module _ (c : Chosen (2 * m + at) (2 * m + at) R R₁ s) where
    waits : word R (2 * m + at) ≡ word (table_at m 2 R) at
    waits = chosen_word m 2 at (2 * m + at) R h (omega arith)

    others : word R (2 * m + at) - s ≡ word (table_at m 2 R) at - 2 ^ c.value
    others = ap₂ (λ (x y : ℕ). x - y) waits c.power

    long : 3 * m ≤ length R₁
    long = omega (arith, chosen_length (2 * m + at) (2 * m + at) s R R₁ c)

    pub sibling-right : R₂ ≡ within m 0 m R₁ → Sibling m at R (set R₂ at s)
    sibling-right copied =
        let t₂ = copied_current m R₁ _ _ _ _ (chosen_tables m at (2 * m + at) s R R₁ h c) long in
        let t₃ = set-current m (within m 0 m R₁) _ _ _ _ t₂ at s h in
        rw copied (record {
          value = c.value;
          lowest = rw (← waits) c.lowest;
          tables = record {
            current = t₃.current ∙ ap (set (table_at m 1 R) at) c.power;
            kept = t₃.kept;
            waiting = t₃.waiting ∙ ap (set (table_at m 2 R) at) others;
            beyond = t₃.beyond;
          };
        })

    module _ (bytes ys : List ℕ) (copied : R₂ ≡ within m 0 at R₁)
        (decided : ys ≡ set (base (file_table (length (take m R₂)) bytes) (take m R₂) at) at s) where
      -- the first table before `decide`: no word of it but those before `at` is read
      begun : Tables m R₂ (table_at m 0 R₂) (table_at m 1 R) (set (table_at m 2 R) at (word R (2 * m + at) - s)) (drop (3 * m) R)
      begun = rw copied (begun-current m R₁ _ _ _ _ (chosen_tables m at (2 * m + at) s R R₁ h c) at (omega arith) long)

      front_kept : take at (take m R₂) ≡ take at (table_at m 1 R)
      front_kept =
          let f : take at (table_at m 0 R₂) ≡ take at (table_at m 1 R) =
          rw copied (begun-front m R₁ _ _ _ _ (chosen_tables m at (2 * m + at) s R R₁ h c) at (omega arith) long) in
          ap (take at) (lent-part m 0 0 m R₂ (omega arith) refl) ∙ f

      still-long : 3 * m ≤ length R₂
      still-long = omega (arith, long, ap length copied ∙ within-length m 0 at R₁ (omega (arith, long)) (omega (arith, long)))

      next : ys ≡ set (base (file_table m bytes) (table_at m 1 R) at) at s
      next =
          let n : length (take m R₂) ≡ m = length-take-le m R₂ (omega (arith, still-long)) in
          decided ∙ ap (λ (i : ℕ). set (base (file_table i bytes) (take m R₂) at) at s) n
          ∙ ap (λ (T : List ℕ). set T at s) (base-front (file_table m bytes) (take m R₂) (table_at m 1 R) at front_kept)

      next-length : length ys ≡ m
      next-length =
          let B : List ℕ = base (file_table m bytes) (table_at m 1 R) at in
          let l = table_at-length m 1 R (omega arith) fits in
          ap length next ∙ length-set B at s ∙ base-length (file_table m bytes) (table_at m 1 R) at (omega arith) (table-length m bytes ∙ sym l) ∙ l

      pub restart-right : Restart (file_table m bytes) m at R (replaced R₂ 0 m ys)
      restart-right =
          let t = lent-current m R₂ _ _ _ _ begun ys still-long next-length in
          record {
            value = c.value;
            lowest = rw (← waits) c.lowest;
            tables = record {
              current = t.current ∙ next ∙ ap (set (base (file_table m bytes) (table_at m 1 R) at) at) c.power;
              kept = t.kept;
              waiting = t.waiting ∙ ap (set (table_at m 2 R) at) others;
              beyond = t.beyond;
            };
          }
