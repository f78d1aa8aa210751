-- One table of a room changes, by a store or because it was lent, and the others stay. Assumes nothing.
use mathlib.Core.Path.{◌≡◌, refl, sym, ap, subst, ◌∙◌}
use mathlib.Core.Logic.{◌≢◌}
use mathlib.Core.List.{List}
use Prim.Native.Nat.{ℕ, suc, ◌+◌, ◌-◌, ◌*◌, ◌≤◌, ◌<◌}
use native.Mathlib.Nat.{mul-suc, mul-le-mul_left}
use native.Mathlib.Omega.{arith}
use lib.ListN.{length, set, take, drop}
use lib.Seq.{get_or-take, get_or-drop, take-take, take_at}
use Rattle.model.specs.Words.{word}
use Rattle.laws.proofs.SliceLaws.{Outside, drop-after, other_block, set-outside, part-set, replaced, part-replaced, replaced-outside}
use Rattle.laws.proofs.LayoutLaws.{part_length}
use Rattle.room.specs.Tables.{table_at, Tables, within}

pub tables-of : (m : ℕ) (R : List ℕ) → Tables m R (table_at m 0 R) (table_at m 1 R) (table_at m 2 R) (drop (3 * m) R)
tables-of m R = record { current = refl; kept = refl; waiting = refl; beyond = refl }

pub table_at-word : (m q j : ℕ) (R : List ℕ) → j < m → word (table_at m q R) j ≡ word R (m * q + j)
unfolding table_at
table_at-word m q j R h = get_or-take m (drop (m * q) R) j 0 h ∙ get_or-drop (m * q) R j 0

table-end : (m q : ℕ) → q < 3 → m * q + m ≤ 3 * m
table-end m q h = omega (arith, mul-le-mul_left m h, mul-suc m q)

pub table_at-length : (m q : ℕ) (R : List ℕ) → q < 3 → 3 * m ≤ length R → length (table_at m q R) ≡ m
unfolding table_at
table_at-length m q R h l = part_length (m * q) m R (omega (arith, table-end m q h))

-- what is lent of a room from a to a + n is its table q
pub lent-part : (m q a n : ℕ) (R : List ℕ) → a ≡ m * q → n ≡ m → take n (drop a R) ≡ table_at m q R
unfolding table_at
lent-part m q a n R e w = ap (λ (b : ℕ). take n (drop b R)) e ∙ ap (λ (b : ℕ). take b (drop (m * q) R)) w

-- U is R, but that table q is t
record With (m q : ℕ) (R U t : List ℕ) : Type 0 where
  table : table_at m q U ≡ t
  others : (p : ℕ) → p ≢ q → table_at m p U ≡ table_at m p R
  end : drop (3 * m) U ≡ drop (3 * m) R

outside-with : (m q a e : ℕ) (R U t : List ℕ) → q < 3 → m * q ≤ a → e ≤ m * q + m → Outside a e R U → table_at m q U ≡ t → With m q R U t
unfolding table_at
outside-with m q a e R U t h l r o s = record {
  table = s;
  others = λ p n. other_block a e R U o m q p l r n;
  end = drop-after a e R U o (3 * m) (omega (arith, table-end m q h));
}

-- word i of the room is word `at` of table q
set-with : (m q at i v : ℕ) (R : List ℕ) → q < 3 → at < m → i ≡ m * q + at → With m q R (set R i v) (set (table_at m q R) at v)
unfolding table_at
set-with m q at i v R l h e = outside-with m q i (suc i) R (set R i v) _ l (omega arith) (omega arith) (set-outside R i v)
    (ap (λ (j : ℕ). table_at m q (set R j v)) e ∙ part-set (m * q) m at v R h)

-- table q begins at a and has n words
lent-with : (m q a n : ℕ) (R ys : List ℕ) → q < 3 → a ≡ m * q → n ≡ m → 3 * m ≤ length R → length ys ≡ m → With m q R (replaced R a n ys) ys
lent-with m q a n R ys l e w fits size =
    let end = table-end m q l in
    outside-with m q a (a + n) R (replaced R a n ys) ys l (omega arith) (omega arith) (replaced-outside R a n ys (omega arith) (size ∙ sym w))
    (sym (lent-part m q a n (replaced R a n ys) e w) ∙ part-replaced R a n ys (omega arith) (size ∙ sym w))

-- table p is copied over table q
within-with : (m p q a b : ℕ) (R : List ℕ) → p < 3 → q < 3 → a ≡ m * p → b ≡ m * q → 3 * m ≤ length R → With m q R (within a b m R) (table_at m p R)
unfolding within replaced
within-with m p q a b R k l e f fits =
    let t : take m (drop a R) ≡ table_at m p R = lent-part m p a m R e refl in
    subst (With m q R (within a b m R)) t (lent-with m q b m R (take m (drop a R)) l f refl fits (ap length t ∙ table_at-length m p R k fits))

module _ (m : ℕ) (R cur held alt rest : List ℕ) (T : Tables m R cur held alt rest) where
  with-current : (U t : List ℕ) → With m 0 R U t → Tables m U t held alt rest
  with-current U t c = record {
    current = c.table;
    kept = c.others 1 (omega arith) ∙ T.kept;
    waiting = c.others 2 (omega arith) ∙ T.waiting;
    beyond = c.end ∙ T.beyond;
  }

  with-kept : (U t : List ℕ) → With m 1 R U t → Tables m U cur t alt rest
  with-kept U t c = record {
    current = c.others 0 (omega arith) ∙ T.current;
    kept = c.table;
    waiting = c.others 2 (omega arith) ∙ T.waiting;
    beyond = c.end ∙ T.beyond;
  }

  with-waiting : (U t : List ℕ) → With m 2 R U t → Tables m U cur held t rest
  with-waiting U t c = record {
    current = c.others 0 (omega arith) ∙ T.current;
    kept = c.others 1 (omega arith) ∙ T.kept;
    waiting = c.table;
    beyond = c.end ∙ T.beyond;
  }

  -- word `at` of a table is stored
  module _ (at v : ℕ) (h : at < m) where
    pub set-current : Tables m (set R at v) (set cur at v) held alt rest
    set-current = with-current _ _ (rw (← T.current) (set-with m 0 at at v R (omega arith) h (omega arith)))

    pub set-waiting : Tables m (set R (2 * m + at) v) cur held (set alt at v) rest
    set-waiting = with-waiting _ _ (rw (← T.waiting) (set-with m 2 at (2 * m + at) v R (omega arith) h (omega arith)))

  -- a table was lent, and has come back as ys
  module _ (ys : List ℕ) (fits : 3 * m ≤ length R) (size : length ys ≡ m) where
    pub lent-current : Tables m (replaced R 0 m ys) ys held alt rest
    lent-current = with-current _ _ (lent-with m 0 0 m R ys (omega arith) (omega arith) refl fits size)

    pub lent-kept : Tables m (replaced R m (2 * m - m) ys) cur ys alt rest
    lent-kept = with-kept _ _ (lent-with m 1 m (2 * m - m) R ys (omega arith) (omega arith) (omega arith) fits size)

    pub lent-waiting : Tables m (replaced R (2 * m) (3 * m - 2 * m) ys) cur held ys rest
    lent-waiting = with-waiting _ _ (lent-with m 2 (2 * m) (3 * m - 2 * m) R ys (omega arith) (omega arith) (omega arith) fits size)

  -- one table is copied over another whole
  module _ (fits : 3 * m ≤ length R) where
    pub copied_kept : Tables m (within 0 m m R) cur cur alt rest
    copied_kept = with-kept _ _ (rw (← T.current) (within-with m 0 1 0 m R (omega arith) (omega arith) (omega arith) (omega arith) fits))

    pub copied_current : Tables m (within m 0 m R) held held alt rest
    copied_current = with-current _ _ (rw (← T.kept) (within-with m 1 0 m 0 R (omega arith) (omega arith) (omega arith) (omega arith) fits))

  -- only the words before `at` of the second table are copied over the first
  module _ (at : ℕ) (h : at ≤ m) (fits : 3 * m ≤ length R) where
    front_length : length (take at (drop m R)) ≡ at
    front_length = part_length m at R (omega arith)

    pub begun-current : Tables m (within m 0 at R) (table_at m 0 (within m 0 at R)) held alt rest
    unfolding within replaced
    begun-current = with-current _ _ (outside-with m 0 0 (0 + at) R (within m 0 at R) _ (omega arith) (omega arith) (omega arith)
        (replaced-outside R 0 at (take at (drop m R)) (omega arith) front_length) refl)

    pub begun-front : take at (table_at m 0 (within m 0 at R)) ≡ take at held
    unfolding within table_at
    begun-front =
        let e : m * 1 ≡ m = omega arith in
        let z : m * 0 ≡ 0 = omega arith in
        let U : List ℕ = within m 0 at R in
        let k : take m (drop m R) ≡ held = ap (λ (i : ℕ). take m (drop i R)) (sym e) ∙ T.kept in
        ap (λ (i : ℕ). take at (take m (drop i U))) z ∙ take-take at m U h ∙ take_at (take at (drop m R)) (drop at R) at front_length
        ∙ sym (take-take at m (drop m R) h) ∙ ap (take at) k
