-- The kinds of an automaton's symbols: how the loops find them, and that one symbol of each kind is enough to ask. Assumes nothing.
use Rattle.std.proofs.Common.{◌≡◌, ℕ, ◌+◌, ◌-◌, ◌*◌, ◌^◌, ◌<◌, ◌≤◌, Bool, true, false, not, ◌&&◌, eqb, ◌≢◌, ◌⊎◌, List, map, length, drop, set, replicate, sym, refl, ap, ◌∙◌, subst, inl, inr, ⊎_elim, pos_of_ne-zero, arith, length-set, length-drop, length-take-le, get_or-set_other, get_or-set_same, lt-ltb, eqb-true}
use mathlib.Core.Bool.{false≢true}
use mathlib.Core.Option.{some}
use Rattle.std.specs.Prelude.{Option, Some, None, is_some}
use lib.Bits.{bit_and, bit_or, or_lt, and_le_l}
use lib.ListN.{length-map}
use borrow.Author.Tests.{eqb-false}
use borrow.Rule.Slice.PartMut.{put_mid, same_len_mid}
use Rattle.std.proofs.lemmas.Slice.{between_is, between-put_mid, take-put_mid_below}
use Rattle.model.specs.Words.{bit, word, none_from}
use Rattle.model.specs.Constraints.{Automaton, move, holds}
use Rattle.model.specs.Reading.{pieces, target}
use Rattle.laws.specs.Inclusion.{Within}
use Rattle.laws.proofs.ListLaws.{true_and, get_or-zeros, never_true}
use Rattle.laws.proofs.ReadingLaws.{pieces-length}
use Rattle.laws.proofs.WordLaws.{in_bits, none_from-bits, none_from-within, pow_self, pow-only, or-bit-left, or-bit-right, of-or-bit}
use Rattle.laws.proofs.WordLaws.{bit_high, bit-sub, sub_within}
use Rattle.laws.proofs.ShiftLaws.{and-bit, of-and-bit, bit_mask, without-bit}
use Rattle.words.specs.Ends.{Lowest}
use Rattle.automata.specs.Machine.{state_count, machine, move_of, mark_of, Whole}
use Rattle.automata.specs.Walk.{Held, Starts}
use Rattle.automata.specs.Kinds.{Alike, Total, OneKind, Lacks, lacking_of, KindWords, Kinds, kind_of, words_of, Spread, Noted, Partly, AllHeld, AllKinds, Firsts, AllOf}
use Rattle.automata.specs.StateSets.{Successors, Steps}
use Rattle.automata.proofs.MachineLaws.{moves-below, mark-one, some-move}
use Rattle.automata.proofs.SetLaws.{no-bit, one_more, Walked, walked_step}
use Rattle.automata.proofs.AutomataWalkLaws.{automata-count, lent, rest-lent}

-- ---- one kind

-- the same bits are the same moves
pub same_move : (k : ℕ) (bs : List ℕ) → Whole k bs → (p a b m n : ℕ) → p < state_count bs → a < k → b < k → m ≡ mark_of (move (machine k bs) p a)
    → n ≡ mark_of (move (machine k bs) p b) → m ≡ n → move (machine k bs) p a ≡ move (machine k bs) p b
same_move k bs w p a b m n h x y e f g = mark-one _ _ (moves-below k bs w p a h x) (moves-below k bs w p b h y) (sym e ∙ g ∙ f)

module _ (D : Automaton) where
  pub alike-none : (a b : ℕ) → Alike D 0 a b
  alike-none a b = record { each = λ p h. absurd (omega arith) }

  pub alike-upto : (n m a b : ℕ) → n ≡ m → Alike D n a b → Alike D m a b
  alike-upto n m a b e h = subst (λ (i : ℕ). Alike D i a b) e h

  pub alike_next : (q a b : ℕ) → Alike D q a b → move D q a ≡ move D q b → Alike D (q + 1) a b
  alike_next q a b h e = record { each = one_more (λ p. move D p a ≡ move D p b) q h.each e }

  pub total-none : (a : ℕ) → Total D 0 a
  total-none a = record { each = λ p h. absurd (omega arith) }

  pub total-upto : (n m a : ℕ) → n ≡ m → Total D n a → Total D m a
  total-upto n m a e h = subst (λ (i : ℕ). Total D i a) e h

  pub total-next : (q a : ℕ) (m : Option ℕ) → Total D q a → move_of m ≡ move D q a → is_some m ≡ true → Total D (q + 1) a
  total-next q a m h e d = record { each = one_more (λ p. (t : ℕ) × (move D p a ≡ some t)) q h.each (let t = some-move m d in (t.0, sym e ∙ t.1)) }

  pub total-alike : (q a b : ℕ) → Alike D q a b → Total D q a → Total D q b
  total-alike q a b s h = record { each = λ p l. let t = h.each p l in (t.0, sym (s.each p l) ∙ t.1) }

  pub kind_start : (q k a o : ℕ) → a < k → o ≡ 2 ^ a → OneKind D q k a o
  kind_start q k a o h e = rw e (record {
    own = pow_self a;
    only = λ b y. let z = pow-only a b y in subst (λ (c : ℕ). (c < k) × Alike D q a c) (sym z) (h, record { each = λ p l. refl });
  })

  pub kind_add : (q k a w b o : ℕ) → OneKind D q k a w → b < k → Alike D q a b → o ≡ 2 ^ b → OneKind D q k a (bit_or w o)
  kind_add q k a w b o g h s e = rw e (record {
    own = or-bit-left w (2 ^ b) a g.own;
    only = λ c y. ⊎_elim
        (g.only c)
        (λ z. subst (λ (i : ℕ). (i < k) × Alike D q a i) (sym (pow-only b c z)) (h, s))
        (of-or-bit w (2 ^ b) c y);
  })

-- ---- the word at each of its symbols

-- rest is still to be written
pub record Spreading (T : List ℕ) (w rest : ℕ) (U : List ℕ) : Type 0 where
  pub size : length U ≡ length T
  pub left : (b : ℕ) → bit rest b ≡ true → bit w b ≡ true
  pub there : (b : ℕ) → bit w b ≡ true → (word U b ≡ w) ⊎ (bit rest b ≡ true)
  pub others : (n : ℕ) → (bit w n ≡ true → ⊥) → word U n ≡ word T n

pub spread-start : (T : List ℕ) (w : ℕ) → Spreading T w w T
spread-start T w = record { size = refl; left = λ b y. y; there = λ b y. inr y; others = λ n f. refl }

pub spread_end : (T : List ℕ) (w rest : ℕ) (U : List ℕ) → rest ≡ 0 → Spreading T w rest U → Spread T w U
spread_end T w rest U z s = record { size = s.size; there = λ b y. ⊎_elim (λ e. e) (λ r. absurd (no-bit rest b z r)) (s.there b y); others = s.others }

pub spread-turn : (T : List ℕ) (w rest : ℕ) (U : List ℕ) (a o : ℕ) → length T ≡ 65 → Lowest rest a → o ≡ 2 ^ a → Spreading T w rest U
    → Spreading T w (rest - o) (set U a w)
spread-turn T w rest U a o h low e s = rw e (record {
  size = length-set U a w ∙ s.size;
  left = λ b y. s.left b (sub_within rest a low.here b y);
  there = λ b y. go b y (eqb a b) refl;
  others = λ n f. get_or-set_other U a n w 0 (λ z. f (subst (λ (i : ℕ). bit w i ≡ true) (sym z) (s.left a low.here))) ∙ s.others n f;
})
  where
    go : (b : ℕ) → bit w b ≡ true → (t : Bool) → eqb a b ≡ t → (word (set U a w) b ≡ w) ⊎ (bit (rest - 2 ^ a) b ≡ true)
    go b y true q =
        let n = s.size in
        let l = low.small in
        inl (subst (λ (i : ℕ). word (set U a w) i ≡ w) (eqb-true a b q) (get_or-set_same U a w 0 (omega arith)))
    go b y false q =
        let d = eqb-false a b q in
        ⊎_elim
        (λ r. inl (get_or-set_other U a b w 0 (λ z. d (omega arith)) ∙ r))
        (λ r. inr (bit-sub rest a b low.here ∙ true_and r (ap not q)))
        (s.there b y)

-- ---- the kinds of one automaton

module _ (D : Automaton) (q k : ℕ) (most : k ≤ 64) where
  pub partly_none : Partly D q k (replicate 65 0) 0
  partly_none = record {
    each = λ a h. inl (get_or-zeros 65 a);
    total = λ a h d. absurd (d (get_or-zeros 65 a));
    done = λ a h. absurd (omega arith);
  }

  pub partly_end : (T : List ℕ) (n : ℕ) → k ≤ n → Partly D q k T n → KindWords D q k T
  partly_end T n h g = record {
    each = λ a b l y. ⊎_elim (λ z. let d = g.done a (omega arith) in absurd (omega arith)) (λ o. o.only b y) (g.each a l);
    lacks = record { total = λ a l z. let d = g.done a (omega arith) in g.total a l (omega arith) z };
  }

  module _ (T : List ℕ) (a : ℕ) (g : Partly D q k T a) where
    more : (U : List ℕ) → ((b : ℕ) → b < a → 0 < word U b) → 0 < word U a → (b : ℕ) → b < a + 1 → 0 < word U b
    more U f h = one_more (λ b. 0 < word U b) a f h

    pub partly_known : word T a ≢ 0 → Partly D q k T (a + 1)
    partly_known z = record { each = g.each; total = g.total; done = more T g.done (omega arith) }

    module _ (w : ℕ) (U : List ℕ) (missing : Bool) (W : List ℕ) (o : OneKind D q k a w) (s : Spread T w U) (whole : missing ≡ false → Total D q a)
        (n : Noted U w missing W) where
      some-bit : (b : ℕ) → bit w b ≡ true → 0 < w
      some-bit b y = pos_of_ne-zero (λ z. no-bit w b z y)

      -- a word that is written, and one that is not
      there : (b : ℕ) → bit w b ≡ true → word W b ≡ w
      there b y = let h = (o.only b y).0 in n.others b (omega arith) ∙ s.there b y

      kept : (b : ℕ) → b < k → bit w b ≡ false → word W b ≡ word T b
      kept b h e = n.others b (omega arith) ∙ s.others b (λ y. false≢true (sym e ∙ y))

      -- word 64 is not one of those that are spread
      before-note : word U 64 ≡ word T 64
      before-note = s.others 64 (λ y. let h = (o.only 64 y).0 in absurd (omega arith))

      each : (b : ℕ) → b < k → (t : Bool) → bit w b ≡ t → (word W b ≡ 0) ⊎ OneKind D q k b (word W b)
      each b h true e = inr (rw (there b e) (record {
        own = e;
        only = λ c y. let r = o.only c y in (r.0, record { each = λ p l. sym ((o.only b e).1.each p l) ∙ r.1.each p l });
      }))
      each b h false e = subst (λ (v : ℕ). (v ≡ 0) ⊎ OneKind D q k b v) (sym (kept b h e)) (g.each b h)

      total : (b : ℕ) → b < k → word W b ≢ 0 → bit (word W 64) b ≡ false → (t : Bool) → bit w b ≡ t → Total D q b
      total b h d z true e = total-alike D q a b (o.only b e).1 (whole (never_true missing (λ m. false≢true (sym z ∙ n.new m b e))))
      total b h d z false e = g.total b h (λ y. d (kept b h e ∙ y))
          (never_true (bit (word T 64) b) (λ y. false≢true (sym z ∙ n.keeps b (ap (λ (v : ℕ). bit v b) before-note ∙ y))))

      done : (b : ℕ) → b < a → a < k → (t : Bool) → bit w b ≡ t → 0 < word W b
      done b l h true e = rw (there b e) (some-bit b e)
      done b l h false e = rw (kept b (omega arith) e) (g.done b l)

      pub partly_found : a < k → Partly D q k W (a + 1)
      partly_found h = record {
        each = λ b l. each b l (bit w b) refl;
        total = λ b l d z. total b l d z (bit w b) refl;
        done = more W (λ b l. done b l h (bit w b) refl) (rw (there a o.own) (some-bit a o.own));
      }

-- what is noted
pub noted-none : (T : List ℕ) (w : ℕ) (missing : Bool) → missing ≡ false → Noted T w missing T
noted-none T w missing e = record { size = refl; others = λ n d. refl; keeps = λ b y. y; new = λ m. absurd (false≢true (sym e ∙ m)) }

pub noted_more : (T : List ℕ) (w : ℕ) (missing : Bool) → length T ≡ 65 → Noted T w missing (set T 64 (bit_or (word T 64) w))
noted_more T w missing h =
    let e = get_or-set_same T 64 (bit_or (word T 64) w) 0 (omega arith) in
    record {
      size = length-set T 64 _;
      others = λ n d. get_or-set_other T 64 n _ 0 d;
      keeps = λ b y. ap (λ (v : ℕ). bit v b) e ∙ or-bit-left (word T 64) w b y;
      new = λ m b y. ap (λ (v : ℕ). bit v b) e ∙ or-bit-right (word T 64) w b y;
    }

-- ---- the kinds of all automata

pub machine-states : (k : ℕ) (bs : List ℕ) → length (machine k bs).moves ≡ state_count bs
unfolding machine
machine-states k bs = length-map (pieces (state_count bs) k (drop 5 bs)) (map target) ∙ pieces-length (state_count bs) k (drop 5 bs)

-- words that end before those that are written
pub words-before : (i j : ℕ) (T own : List ℕ) → j < i → 65 * i ≤ length T → words_of (put_mid (65 * i) (65 * i + 65 - 65 * i) T own) j ≡ words_of T j
words-before i j T own h l =
    let U : List ℕ = put_mid (65 * i) (65 * i + 65 - 65 * i) T own in
    between_is U (65 * j) (65 * j + 65) ∙ ap (drop (65 * j)) (take-put_mid_below (65 * i) (65 * i + 65 - 65 * i) T own (65 * j + 65) (omega arith) l)
    ∙ sym (between_is T (65 * j) (65 * j + 65))

pub words-written : (i : ℕ) (T own : List ℕ) → length own ≡ 65 → 65 * i ≤ length T → words_of (put_mid (65 * i) (65 * i + 65 - 65 * i) T own) i ≡ own
words-written i T own n l = between-put_mid (65 * i) (65 * i + 65 - 65 * i) T own (65 * i + 65) l (omega arith)

-- those of the first i automata are found
pub record Finding (k : ℕ) (bs : List ℕ) (i : ℕ) (ks : List ℕ) : Type 0 where
  pub size : length ks ≡ 520
  pub each : (j r : ℕ) → j < i → Starts k bs j r → KindWords (machine k (drop r bs)) (state_count (drop r bs)) k (words_of ks j)

module _ (k d : ℕ) (bs : List ℕ) (most : k ≤ 64) (held : AllHeld k d bs) where
  pub held-each : (i : ℕ) → i < d → Held k bs i
  held-each i h = record { count = d; automata = held.automata; read = held.read; named = omega (arith, automata-count k d bs held.automata held.read) }

  -- wherever it starts, it is the same automaton
  one-start : (i r s : ℕ) → Starts k bs i r → Starts k bs i s → machine k (drop r bs) ≡ machine k (drop s bs)
  one-start i r s g h = sym (g.found d held.automata held.read) ∙ h.found d held.automata held.read

  -- the words of automaton i are written, and those before it stay
  pub finding_turn : (i : ℕ) (T : List ℕ) (at : ℕ) (own : List ℕ) → i < d → d ≤ 8 → Finding k bs i T → Starts k bs i at
      → KindWords (machine k (lent at bs)) (state_count (lent at bs)) k own → length own ≡ 65 → Finding k bs (i + 1) (put_mid (65 * i) (65 * i + 65 - 65 * i) T own)
  finding_turn i T at own h few g s new l = record { size = long ∙ g.size; each = λ j r l t. go j r l t (eqb j i) refl }
    where
      long : length (put_mid (65 * i) (65 * i + 65 - 65 * i) T own) ≡ length T
      long =
          let n = g.size in
          let m = length-take-le (65 * i + 65 - 65 * i) (drop (65 * i) T) (omega (arith, length-drop (65 * i) T)) in
          same_len_mid (65 * i) (65 * i + 65 - 65 * i) T own (omega arith)

      here : words_of (put_mid (65 * i) (65 * i + 65 - 65 * i) T own) i ≡ own
      here = let n = g.size in words-written i T own l (omega arith)

      found : KindWords (machine k (drop at bs)) (state_count (drop at bs)) k (words_of (put_mid (65 * i) (65 * i + 65 - 65 * i) T own) i)
      found = subst (KindWords (machine k (drop at bs)) (state_count (drop at bs)) k) (sym here)
          (subst (λ (b : List ℕ). KindWords (machine k b) (state_count b) k own) (rest-lent at bs) new)

      go : (j r : ℕ) → j < i + 1 → Starts k bs j r → (t : Bool) → eqb j i ≡ t → KindWords (machine k (drop r bs)) (state_count (drop r bs)) k (words_of (put_mid (65 * i) (65 * i + 65 - 65 * i) T own) j)
      go j r l t true z =
          let e = eqb-true j i z in
          let m = one-start i at r s (subst (λ (n : ℕ). Starts k bs n r) e t) in
          let c : state_count (drop at bs) ≡ state_count (drop r bs) = sym (machine-states k (drop at bs)) ∙ ap (λ (D : Automaton). length D.moves) m
          ∙ machine-states k (drop r bs) in
          subst (λ (n : ℕ). KindWords (machine k (drop r bs)) (state_count (drop r bs)) k (words_of (put_mid (65 * i) (65 * i + 65 - 65 * i) T own) n)) (sym e)
          (subst (λ (q : ℕ). KindWords (machine k (drop r bs)) q k (words_of (put_mid (65 * i) (65 * i + 65 - 65 * i) T own) i)) c
          (subst (λ (D : Automaton). KindWords D (state_count (drop at bs)) k (words_of (put_mid (65 * i) (65 * i + 65 - 65 * i) T own) i)) m found))
      go j r l t false z =
          let y = eqb-false j i z in
          let n : j < i = omega arith in
          subst (KindWords (machine k (drop r bs)) (state_count (drop r bs)) k) (sym (words-before i j T own n (let n = g.size in omega arith))) (g.each j r n t)

  pub finding_end : (T : List ℕ) → Finding k bs d T → AllKinds k d bs T
  finding_end T g = record { each = g.each }

pub finding_start : (k : ℕ) (bs T : List ℕ) → length T ≡ 520 → Finding k bs 0 T
finding_start k bs T h = record { size = h; each = λ j r l t. absurd (omega arith) }

-- ---- the symbols of some kinds

-- what symbol a gives: itself, and those of its kind
abbrev pub OfKind : Option (List ℕ) → ℕ → ℕ → ℕ → Type 0
OfKind kinds firsts a t = (bit firsts a ≡ true) × (bit (bit_or (kind_of kinds a) (2 ^ a)) t ≡ true)

own_kind : (kinds : Option (List ℕ)) (a : ℕ) → bit (bit_or (kind_of kinds a) (2 ^ a)) a ≡ true
own_kind kinds a = or-bit-right (kind_of kinds a) (2 ^ a) a (pow_self a)

pub all_start : (kinds : Option (List ℕ)) (firsts : ℕ) → firsts < 2 ^ 64 → Walked 64 firsts (OfKind kinds firsts) firsts firsts
all_start kinds firsts h = record {
  known = λ i y. (bit_high firsts 64 i h y, y);
  sound = λ t y. (t, bit_high firsts 64 t h y, (y, own_kind kinds t));
  complete = λ t i l x. inr x.0;
}

-- the words that are taken one after the other leave out the symbol itself, which is there from the start
pub all-turn : (kinds : Option (List ℕ)) (firsts rest r a o : ℕ) → Walked 64 firsts (OfKind kinds firsts) rest r × Within firsts r → Lowest rest a → o ≡ 2 ^ a
    → Walked 64 firsts (OfKind kinds firsts) (rest - o) (bit_or r (kind_of kinds a)) × Within firsts (bit_or r (kind_of kinds a))
all-turn kinds firsts rest r a o g low e =
    let here : bit firsts a ≡ true = (g.0.known a low.here).1 in (
      walked_step 64 firsts _ rest r a o g.0 low e (bit_or r (kind_of kinds a))
          (λ t y. ⊎_elim inl (λ z. inr (here, or-bit-left (kind_of kinds a) (2 ^ a) t z)) (of-or-bit r (kind_of kinds a) t y))
          (or-bit-left r (kind_of kinds a))
          (λ t x. ⊎_elim
          (or-bit-right r (kind_of kinds a) t)
          (λ z. or-bit-left r (kind_of kinds a) t (g.1 t (subst (λ (i : ℕ). bit firsts i ≡ true) (sym (pow-only a t z)) here)))
          (of-or-bit (kind_of kinds a) (2 ^ a) t x.1)),
      λ t y. or-bit-left r (kind_of kinds a) t (g.1 t y),
    )

-- ---- with words, and without

-- no words are right for every automaton
pub no_words : (D : Automaton) (q k : ℕ) → Kinds D q k None
no_words D q k = record { each = λ a b h y. absurd (no-bit 0 b refl y); lacks = tt {0} }

-- by the symbols that are not lacking, every state moves
pub lacking-lacks : (D : Automaton) (q k : ℕ) (kinds : Option (List ℕ)) → k ≤ 64 → Kinds D q k kinds → Lacks D q k (lacking_of kinds)
lacking-lacks D q k None most g = record { total = λ a h z. absurd (false≢true (sym z ∙ bit_mask 64 a ∙ lt-ltb a 64 (omega arith))) }
lacking-lacks D q k (Some ks) most g = g.lacks

pub no-words-firsts : (w : ℕ) → Firsts None w w
no-words-firsts w = record { within = λ a y. y; each = λ b y. (b, y, own_kind None b) }

pub no-words-all : (firsts : ℕ) → firsts < 2 ^ 64 → AllOf None firsts firsts
no-words-all firsts h = record {
  sound = λ t y. (t, bit_high firsts 64 t h y, (y, own_kind None t));
  complete = λ t a l x. ⊎_elim
      (λ y. absurd (no-bit 0 t refl y))
      (λ y. subst (λ (i : ℕ). bit firsts i ≡ true) (sym (pow-only a t y)) x.0)
      (of-or-bit 0 (2 ^ a) t x.1);
}

-- ---- one symbol of each kind

-- rest is still to be covered
pub record Covering (kinds : Option (List ℕ)) (w rest r : ℕ) : Type 0 where
  pub left : (a : ℕ) → bit rest a ≡ true → bit w a ≡ true
  pub within : (a : ℕ) → bit r a ≡ true → bit w a ≡ true
  pub each : (b : ℕ) → bit w b ≡ true → ((a : ℕ) × (bit r a ≡ true) × (bit (bit_or (kind_of kinds a) (2 ^ a)) b ≡ true)) ⊎ (bit rest b ≡ true)

pub covering_start : (kinds : Option (List ℕ)) (w : ℕ) → Covering kinds w w 0
covering_start kinds w = record { left = λ a y. y; within = λ a y. absurd (no-bit 0 a refl y); each = λ b y. inr y }

pub covering_end : (kinds : Option (List ℕ)) (w rest r : ℕ) → rest ≡ 0 → Covering kinds w rest r → Firsts kinds w r
covering_end kinds w rest r z g = record { within = g.within; each = λ b y. ⊎_elim (λ x. x) (λ x. absurd (no-bit rest b z x)) (g.each b y) }

no-right : (t : Bool) → (t && false) ≡ false
no-right true = refl
no-right false = refl

module _ (kinds : Option (List ℕ)) (w rest r a o : ℕ) (fits : w < 2 ^ 64) (low : Lowest rest a) (e : o ≡ 2 ^ a) (h : kind_of kinds a < 2 ^ 64) (so : o < 2 ^ 64)
    (g : Covering kinds w rest r) where
  abbrev taken : ℕ
  taken = bit_or (kind_of kinds a) o

  small : taken < 2 ^ 64
  small = or_lt 64 (kind_of kinds a) o h so

  pub covering_turn : Covering kinds w (bit_and rest (2 ^ 64 - 1 - taken)) (bit_or r o)
  covering_turn = record {
    left = λ b y. g.left b (of-without b y);
    within = λ b y. ⊎_elim (g.within b) (λ z. subst (λ (i : ℕ). bit w i ≡ true) (sym (pow-only a b (ap (λ (v : ℕ). bit v b) (sym e) ∙ z))) (g.left a low.here))
        (of-or-bit r o b y);
    each = λ b y. ⊎_elim (λ z. inl (z.0, or-bit-left r o z.0 z.1, z.2)) (λ z. go b z (bit taken b) refl) (g.each b y);
  }
    where
      of-without : (b : ℕ) → bit (bit_and rest (2 ^ 64 - 1 - taken)) b ≡ true → bit rest b ≡ true
      of-without b y = (of-and-bit rest (2 ^ 64 - 1 - taken) b y).0

      go : (b : ℕ) → bit rest b ≡ true → (t : Bool) → bit taken b ≡ t
          → ((c : ℕ) × (bit (bit_or r o) c ≡ true) × (bit (bit_or (kind_of kinds c) (2 ^ c)) b ≡ true)) ⊎ (bit (bit_and rest (2 ^ 64 - 1 - taken)) b ≡ true)
      go b z true q = inl (a, or-bit-right r o a (ap (λ (v : ℕ). bit v a) e ∙ pow_self a), ap (λ (v : ℕ). bit (bit_or (kind_of kinds a) v) b) (sym e) ∙ q)
      go b z false q = inr (without-bit rest taken b small (bit_high w 64 b fits (g.left b z)) ∙ true_and z (ap not q))

  pub covering_less : bit_and rest (2 ^ 64 - 1 - taken) < rest
  covering_less =
      let t : bit taken a ≡ true = or-bit-right (kind_of kinds a) o a (ap (λ (v : ℕ). bit v a) e ∙ pow_self a) in
      let f : bit (bit_and rest (2 ^ 64 - 1 - taken)) a ≡ false = without-bit rest taken a small low.small ∙ ap (λ (b : Bool). bit rest a && not b) t
      ∙ no-right (bit rest a) in
      let l = and_le_l rest (2 ^ 64 - 1 - taken) in
      let d : bit_and rest (2 ^ 64 - 1 - taken) ≢ rest = λ z. false≢true (sym f ∙ ap (λ (v : ℕ). bit v a) z ∙ low.here) in
      omega arith

-- ---- one symbol of each kind is enough to ask

module _ (D : Automaton) (q k : ℕ) (words : Option (List ℕ)) (w r : ℕ) (most : k ≤ 64) (kinds : Kinds D q k words) (low : none_from k w ≡ true) (fits : w < 2 ^ 64)
    (g : Firsts words w r) where
  known : (a : ℕ) → bit w a ≡ true → a < k
  known a y = none_from-bits k w low a (in_bits w a y (bit_high w 64 a fits y))

  -- a symbol of the kind of a
  of_kind : (a b : ℕ) → a < k → bit (bit_or (kind_of words a) (2 ^ a)) b ≡ true → (p : ℕ) → p < q → move D p a ≡ move D p b
  of_kind a b h y p l = ⊎_elim (λ z. (kinds.each a b h z).1.each p l) (λ z. ap (move D p) (sym (pow-only a b z))) (of-or-bit (kind_of words a) (2 ^ a) b y)

  -- the symbol that is asked for b
  module _ (b : ℕ) (y : bit w b ≡ true) where
    abbrev asked : ℕ
    asked = (g.each b y).0

    asked-known : asked < k
    asked-known = known asked (g.within asked (g.each b y).1)

    asked_kind : (p : ℕ) → p < q → move D p asked ≡ move D p b
    asked_kind p h = of_kind asked b asked-known (g.each b y).2 p h

  pub firsts-low : none_from k r ≡ true
  firsts-low = none_from-within k r w g.within low

  pub firsts-successors : (set s : ℕ) → Successors D q k set r s → Successors D q k set w s
  firsts-successors set s x = record {
    sound = λ t b. let u = x.sound t b in (u.0, u.1, (g.within u.0 u.2.0, u.2.1));
    complete = λ t b h u.
        let m = u.1 in
        x.complete t (asked b u.0) (asked-known b u.0) ((g.each b u.0).1, (m.0, m.1, m.2, ap mark_of (asked_kind b u.0 m.0 m.1) ∙ m.3));
  }

  pub firsts-steps : (from into symbols states all : ℕ) → Steps D q k r from into symbols states → AllOf words symbols all → Steps D q k w from into
      (bit_and w all) states
  firsts-steps from into symbols states all x whole = record {
    by = record {
      sound = λ b y.
          let t = of-and-bit w all b y in
          let u = whole.sound b t.1 in
          let v = x.by.sound u.0 u.2.0 in
          let m = v.2.2 in
          let h : u.0 < k = subst (λ (a : ℕ). a < k) v.2.0 v.1 in
          let e : move D m.0 v.0 ≡ move D m.0 b =
          ap (move D m.0) v.2.0 ∙ of_kind u.0 b h u.2.1 m.0 m.1 in
          (b, known b t.0, (refl, t.0, (m.0, m.1, m.2, ap (holds into) (sym e) ∙ m.3)));
      complete = λ t b h u.
          let m = u.2 in
          let y = u.1 in
          let e = asked_kind b y m.0 m.1 in
          let a = asked-known b y in
          let z = x.by.complete (asked b y) (asked b y) a (refl, (g.each b y).1, (m.0, m.1, m.2, ap (holds into) e ∙ m.3)) in
          subst (λ (i : ℕ). bit (bit_and w all) i ≡ true) u.0
          (and-bit w all b y (whole.complete b (asked b y) (omega arith) (z, (g.each b y).2)));
    };
    of = record {
      sound = λ t b. let u = x.of.sound t b in let m = u.2.2 in (u.0, u.1, (u.2.0, u.2.1, (m.0, m.1, g.within m.0 m.2, m.3)));
      complete = λ t p h u.
          let m = u.2 in
          let y = m.2 in
          x.of.complete t p h (u.0, u.1, (asked m.0 y, asked-known m.0 y, (g.each m.0 y).1, ap (holds into) (asked_kind m.0 y p h) ∙ m.3));
    };
  }
