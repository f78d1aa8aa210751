-- An automaton in its bytes: what the model reads there is whole, and where each move stands. Assumes nothing.
use Rattle.std.proofs.Common.{◌≡◌, ℕ, suc, ◌+◌, ◌*◌, ◌%◌, ◌^◌, ◌<◌, ◌≤◌, Bool, true, cond, eqb, ltb, ◌≢◌, ◌⊎◌, List, [], map, length, get_or, drop, sym, refl, ap, ◌∙◌, subst, inl, inr, ⊎_elim, mul-le-mul_right, suc-mul, arith, length-drop, length-take-le, get_or-drop, get_or-take, ltb-true, eq-eqb, ne_eqb, eqb-true, leb-true}
use mathlib.Core.Bool.{false≢true}
use mathlib.Core.Option.{Option, none, some, none-ne-some, some-injective}
use lib.ListN
use Rattle.model.specs.Words.{bit}
use Rattle.model.specs.Constraints.{Automaton, move, holds}
use Rattle.model.specs.Layout.{little, part}
use Rattle.model.specs.Reading.{pieces, target, known, automaton}
use Rattle.laws.proofs.LayoutLaws.{part_length}
use Rattle.laws.proofs.ListLaws.{given-some, and_true, or_true, of-all, get_or_in, get_d_map}
use Rattle.laws.proofs.ShiftLaws.{bit_past}
use Rattle.std.specs.Prelude
use Rattle.std.specs.Prelude.{Some, None, unwrap_or, is_some}
use Rattle.automata.specs.Machine.{state_count, machine, move_of, mark_of, Whole}
use Rattle.laws.proofs.ReadingLaws.{pieces-at, pieces-word}

-- ---- the n bytes behind the accepting states

pub moves_byte : (n : ℕ) (bs : List ℕ) (j : ℕ) → j < n → get_or (part 5 n bs) j 0 ≡ get_or bs (5 + j) 0
moves_byte n bs j h = get_or-take n (drop 5 bs) j 0 h ∙ get_or-drop 5 bs j 0

-- ---- what refusal 5 leaves

pub automaton-whole : (k : ℕ) (bs : List ℕ) (A : Automaton) → automaton k bs ≡ some A → Whole k bs × (A ≡ machine k bs)
unfolding automaton machine
automaton-whole k bs A e =
    let q = state_count bs in
    let g = given-some _ _ A e in
    let t₅ = and_true _ _ g.0 in
    let t₄ = and_true _ _ t₅.0 in
    let t₃ = and_true _ _ t₄.0 in
    let t₂ = and_true _ _ t₃.0 in
    let long : 5 + q * k ≤ length bs = leb-true (5 + q * k) (length bs) t₃.1 in
    let size : length (part 5 (q * k) bs) ≡ q * k = part_length 5 (q * k) bs long in (
      record {
        some-state = leb-true 1 q t₂.0;
        most-states = leb-true q 32 t₂.1;
        long = long;
        accepting-known = t₄.1;
        moves-known = λ j h.
            let l : j < length (part 5 (q * k) bs) = subst (λ (n : ℕ). j < n) (sym size) h in
            ap (known q) (sym (moves_byte (q * k) bs j h)) ∙ of-all (known q) t₅.1 (get_or_in (part 5 (q * k) bs) j 0 l);
      },
      g.1,
    )

-- ---- the accepting states

pub machine-accepting : (k : ℕ) (bs : List ℕ) → (machine k bs).accepting ≡ little (part 1 4 bs)
unfolding machine
machine-accepting k bs = refl

-- ---- a byte of a row: a state, or 255

pub known-cases : (q b : ℕ) → known q b ≡ true → (b < q) ⊎ (b ≡ 255)
unfolding known
known-cases q b e = ⊎_elim (λ h. inl (ltb-true b q h)) (λ h. inr (eqb-true b 255 h)) (or_true (ltb b q) (eqb b 255) e)

pub target_gap : (b : ℕ) → b ≡ 255 → target b ≡ none
unfolding target
target_gap b e = ap (λ (t : Bool). cond t none (some b)) (eq-eqb b 255 e)

pub target-state : (b : ℕ) → b ≢ 255 → target b ≡ some b
unfolding target
target-state b d = ap (λ (t : Bool). cond t none (some b)) (ne_eqb b 255 d)

module _ (q b : ℕ) (most : q ≤ 32) (e : known q b ≡ true) where
  -- a state is below q
  pub target-known : (t : ℕ) → target b ≡ some t → t < q
  target-known t f = ⊎_elim
      (λ h. let z : b ≡ t = some-injective b t (sym (target-state b (omega arith)) ∙ f) in omega arith)
      (λ g. absurd (none-ne-some t (sym (target_gap b g) ∙ f)))
      (known-cases q b e)

  -- by 64 the byte gives its state, or 63
  pub byte_gap : b % 64 ≡ 63 → target b ≡ none
  byte_gap f = ⊎_elim (λ h. absurd (omega arith)) (target_gap b) (known-cases q b e)

  pub byte_state : b % 64 ≢ 63 → target b ≡ some (b % 64)
  byte_state d = ⊎_elim
      (λ h. let z : b ≡ b % 64 = omega arith in target-state b (omega arith) ∙ ap some z)
      (λ g. absurd (d (ap (λ (n : ℕ). n % 64) g)))
      (known-cases q b e)

-- ---- the moves

-- a cell of q rows of k
pub cell-inside : (q k p a : ℕ) → p < q → a < k → p * k + a < q * k
cell-inside q k p a h l = let r : suc p * k ≤ q * k = mul-le-mul_right k h in omega (arith, suc-mul p k)

pub cells_few : (q k : ℕ) → q ≤ 32 → k ≤ 64 → q * k ≤ 2048
cells_few q k h l = let r : q * k ≤ 32 * k = mul-le-mul_right k h in omega arith

module _ (k : ℕ) (bs : List ℕ) (w : Whole k bs) (p a : ℕ) (h : p < state_count bs) (l : a < k) where
  abbrev cell : ℕ
  cell = get_or bs (5 + p * k + a) 0

  -- the row of state p
  row-long : length (get_or (pieces (state_count bs) k (drop 5 bs)) p []) ≡ k
  row-long =
      let r : suc p * k ≤ state_count bs * k = mul-le-mul_right k h in
      let n = w.long in
      ap length (pieces-at (state_count bs) k (drop 5 bs) p h)
      ∙ length-take-le k (drop (p * k) (drop 5 bs)) (omega (arith, suc-mul p k, length-drop (p * k) (drop 5 bs), length-drop 5 bs))

  pub move_byte : move (machine k bs) p a ≡ target cell
  unfolding machine move
  move_byte =
      let e : 5 + (p * k + a) ≡ 5 + p * k + a = omega arith in
      let rows : List (List ℕ) = pieces (state_count bs) k (drop 5 bs) in
      ap (λ (r : List (Option ℕ)). get_or r a none) (ListN.get_or-map (map target) rows p [])
      ∙ get_d_map target (get_or rows p []) a 0 none (subst (λ (n : ℕ). a < n) (sym row-long) l)
      ∙ ap target (pieces-word (state_count bs) k (drop 5 bs) p a h l ∙ get_or-drop 5 bs (p * k + a) 0 ∙ ap (λ (j : ℕ). get_or bs j 0) e)

  pub cell-known : known (state_count bs) cell ≡ true
  cell-known =
      let e : 5 + p * k + a ≡ 5 + (p * k + a) = omega arith in
      ap (λ (j : ℕ). known (state_count bs) (get_or bs j 0)) e ∙ w.moves-known (p * k + a) (cell-inside (state_count bs) k p a h l)

  -- a move that is there leads to a state
  pub move-known : (t : ℕ) → move (machine k bs) p a ≡ some t → t < state_count bs
  move-known t e = target-known (state_count bs) cell w.most-states cell-known t (sym move_byte ∙ e)

  pub move_gap : cell % 64 ≡ 63 → move (machine k bs) p a ≡ none
  move_gap e = move_byte ∙ byte_gap (state_count bs) cell w.most-states cell-known e

  pub move-state : cell % 64 ≢ 63 → move (machine k bs) p a ≡ some (cell % 64)
  move-state d = move_byte ∙ byte_state (state_count bs) cell w.most-states cell-known d

  -- as the code answers it
  pub next_gap : cell % 64 ≡ 63 → (move_of None ≡ move (machine k bs) p a) × (mark_of (move_of None) < 64)
  unfolding move_of mark_of
  next_gap e = (sym (move_gap e), omega arith)

  pub next-state : cell % 64 ≢ 63 → (move_of (Some (cell % 64)) ≡ move (machine k bs) p a) × (mark_of (move_of (Some (cell % 64))) < 64)
  unfolding move_of mark_of
  next-state d = (sym (move-state d), omega arith)

-- ---- the bit that stands for a move

pub unwrap_mark : (m : Prelude.Option ℕ) → unwrap_or m 63 ≡ mark_of (move_of m)
unfolding move_of mark_of
unwrap_mark None = refl
unwrap_mark (Some p) = refl

-- no state that a move leads to is n or above
abbrev pub Below : ℕ → Option ℕ → Type 0
Below n m = (t : ℕ) → m ≡ some t → t < n

pub mark-small : (m : Option ℕ) → Below 63 m → mark_of m < 64
unfolding mark_of
mark-small none f = omega arith
mark-small (some p) f = let h = f p refl in omega arith

-- below 63 it is the state
pub mark-state : (m : Option ℕ) (t : ℕ) → t < 63 → mark_of m ≡ t → m ≡ some t
unfolding mark_of
mark-state none t h e = absurd (omega arith)
mark-state (some p) t h e = ap some e

pub mark_gap : (m : Option ℕ) → Below 63 m → mark_of m ≡ 63 → m ≡ none
unfolding mark_of
mark_gap none f e = refl
mark_gap (some p) f e = let h = f p refl in absurd (omega arith)

pub mark-move : (m : Option ℕ) → mark_of m ≢ 63 → (t : ℕ) × (m ≡ some t)
unfolding mark_of
mark-move none d = absurd (d refl)
mark-move (some p) d = (p, refl)

pub some-move : (m : Prelude.Option ℕ) → is_some m ≡ true → (t : ℕ) × (move_of m ≡ some t)
unfolding move_of
some-move None e = absurd (false≢true e)
some-move (Some p) e = (p, refl)

-- moves with the same bit are the same
pub mark-one : (m n : Option ℕ) → Below 63 m → Below 63 n → mark_of m ≡ mark_of n → m ≡ n
unfolding mark_of
mark-one none n f g e = sym (mark_gap n g (sym e))
mark-one (some p) n f g e = sym (mark-state n p (f p refl) (sym e))

pub mark-some : (m : Option ℕ) (t : ℕ) → m ≡ some t → mark_of m ≡ t
unfolding mark_of
mark-some m t e = ap mark_of e

-- a set of states has the bit just when it has the move
pub mark-holds : (set : ℕ) (m : Option ℕ) → set < 2 ^ 32 → bit set (mark_of m) ≡ holds set m
unfolding mark_of holds
mark-holds set none h = bit_past 32 set 63 h (omega arith)
mark-holds set (some p) h = refl

pub holds-state : (set : ℕ) (m : Option ℕ) → holds set m ≡ true → (t : ℕ) × (m ≡ some t) × (bit set t ≡ true)
unfolding holds
holds-state set none e = absurd (false≢true e)
holds-state set (some p) e = (p, refl, e)

pub state-holds : (set : ℕ) (m : Option ℕ) (t : ℕ) → m ≡ some t → bit set t ≡ true → holds set m ≡ true
unfolding holds
state-holds set m t e b = ap (holds set) e ∙ b

-- as the code makes it of the move that it was answered
pub mark-next : {m : ℕ} (n : Prelude.Option ℕ) {o : Option ℕ} → m ≡ mark_of (move_of n) → move_of n ≡ o → m ≡ mark_of o
mark-next n e f = e ∙ ap mark_of f

-- the moves of an automaton in its bytes
pub moves-below : (k : ℕ) (bs : List ℕ) → Whole k bs → (p a : ℕ) → p < state_count bs → a < k → Below 63 (move (machine k bs) p a)
moves-below k bs w p a h l t e = let z = move-known k bs w p a h l t e in let q = w.most-states in omega arith
