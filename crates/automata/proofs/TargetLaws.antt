-- What each state moves to by the symbols of one word, kept; and the loops that ask by it. Assumes nothing.
use Rattle.std.proofs.Common.{◌≡◌, ℕ, ◌+◌, ◌-◌, ◌^◌, ◌<◌, ◌≤◌, Bool, true, false, not, eqb, ◌≢◌, ◌⊎◌, List, length, set, sym, refl, ap, ◌∙◌, subst, inl, inr, ⊎_elim, arith, length-set, get_or-set_other, get_or-set_same, lt-ltb, eqb-true}
use mathlib.Core.Bool.{false≢true}
use lib.Bits.{bit_and, bit_or, and_le_r}
use lib.Count.{count_trailing_zeros}
use borrow.Author.Tests.{eqb-false}
use Rattle.model.specs.Words.{bit, word, none_from}
use mathlib.Core.Option.{Option, none, some, none-ne-some}
use Rattle.model.specs.Constraints.{Automaton, move, holds}
use Rattle.laws.specs.Inclusion.{Within}
use Rattle.laws.proofs.ListLaws.{never_true, never_false}
use Rattle.laws.proofs.WordLaws.{in_bits, none_from-bits, pow_self, or-bit-left, or-bit-right, of-or-bit, bit_high, no_bits}
use Rattle.laws.proofs.ShiftLaws.{and-bit, of-and-bit, bit_flip, bit_mask}
use Rattle.words.specs.Ends.{Lowest}
use Rattle.words.proofs.EndLaws.{lowest_trailing}
use Rattle.automata.specs.Machine.{state_count, machine, mark_of, Whole}
use Rattle.automata.specs.StateSets.{Gathered, Moves, Enters, Successors, By, Added, Steps, Targets, Most, Forgotten}
use Rattle.automata.specs.Kinds.{Lacks}
use Rattle.automata.proofs.MachineLaws.{Below, move-known, mark-small, mark-holds, mark-some, holds-state}
use Rattle.automata.proofs.SetLaws.{no-bit, one_more, Walked, walked_step, walked_skip, walked_one, ByState, ByEntering}

-- ---- words without others

-- a bit of v is one of u, or one of v without u
pub with-or-without : (n v u b : ℕ) → b < n → u < 2 ^ n → bit v b ≡ true → (bit u b ≡ true) ⊎ (bit (bit_and v (2 ^ n - 1 - u)) b ≡ true)
with-or-without n v u b h l x = go (bit u b) refl
  where
    go : (t : Bool) → bit u b ≡ t → (bit u b ≡ true) ⊎ (bit (bit_and v (2 ^ n - 1 - u)) b ≡ true)
    go true e = inl e
    go false e = inr (and-bit v (2 ^ n - 1 - u) b x (bit_flip n u b l h ∙ ap not e))

some_of : (w : ℕ) → w < 2 ^ 64 → w ≢ 0 → (b : ℕ) × (bit w b ≡ true)
some_of w h d = (count_trailing_zeros 64 w, (lowest_trailing w (omega arith) h).here)

-- ---- what is kept

module _ (D : Automaton) (q k symbols : ℕ) where
  pub targets-none : (tos : List ℕ) → q ≤ 32 → Forgotten tos → Targets D q k symbols tos
  targets-none tos h f = record { size = f.size; each = λ p l. inl (f.none p (omega arith)) }

  module _ (tos : List ℕ) (g : Targets D q k symbols tos) (p : ℕ) where
    pub targets-at : p < q → word tos p ≢ 0 → Moves D k p symbols (word tos p)
    targets-at h d = ⊎_elim (λ z. absurd (d z)) (λ m. m) (g.each p h)

    pub targets-set : (r : ℕ) → p < 32 → Moves D k p symbols r → Targets D q k symbols (set tos p r)
    targets-set r h m = record { size = length-set tos p r ∙ g.size; each = λ o l. go o l (eqb o p) refl }
      where
        go : (o : ℕ) → o < q → (t : Bool) → eqb o p ≡ t → (word (set tos p r) o ≡ 0) ⊎ Moves D k o symbols (word (set tos p r) o)
        go o l true z = inr (rw (eqb-true o p z) (subst (Moves D k p symbols) (sym (get_or-set_same tos p r 0 (let n = g.size in omega arith))) m))
        go o l false z =
            subst (λ (w : ℕ). (w ≡ 0) ⊎ Moves D k o symbols w) (sym (get_or-set_other tos p o r 0 (eqb-false o p z))) (g.each o l)

-- by no symbol nothing is kept, so that the sets belong to any word
pub targets_unasked : (D : Automaton) (q k r : ℕ) (tos : List ℕ) → Targets D q k 0 tos → Targets D q k r tos
targets_unasked D q k r tos g = record {
  size = g.size;
  each = λ p l. inl (⊎_elim (λ z. z) (λ m. no_bits (word tos p) (λ b. never_true (bit (word tos p) b) (λ y. no-bit 0 (m.sound b y).0 refl (m.sound b y).2.0))) (g.each p l));
}

pub forgotten_turn : (tos : List ℕ) (i : ℕ) → i < length tos → ((p : ℕ) → p < i → word tos p ≡ 0) → (p : ℕ) → p < i + 1 → word (set tos i 0) p ≡ 0
forgotten_turn tos i h f = one_more (λ p. word (set tos i 0) p ≡ 0) i (λ p l. get_or-set_other tos i p 0 0 (omega arith) ∙ f p l) (get_or-set_same tos i 0 0 h)

-- ---- forwards, where all is found

states-low : (q t : ℕ) → 1 ≤ q → t < q → bit (2 ^ (q - 1 + 1) - 1) t ≡ true
states-low q t h l =
    let n : q - 1 + 1 ≡ q = omega arith in
    ap (λ (m : ℕ). bit (2 ^ m - 1) t) n ∙ bit_mask q t ∙ lt-ltb t q l

pub most-total : (q symbols lacking all : ℕ) → 1 ≤ q → bit_and symbols lacking ≡ 0 → all ≡ 2 ^ (q - 1 + 1) - 1 → Most q symbols lacking all
most-total q symbols lacking all h z e = record {
  states = λ t l. rw e (states-low q t h l);
  mark = λ a x y. absurd (no-bit (bit_and symbols lacking) a z (and-bit symbols lacking a x y));
}

pub most-marked : (q symbols lacking all m : ℕ) → 1 ≤ q → m ≡ 2 ^ 63 → all ≡ 2 ^ (q - 1 + 1) - 1 → Most q symbols lacking (bit_or m all)
most-marked q symbols lacking all m h u e = record {
  states = λ t l. or-bit-right m all t (rw e (states-low q t h l));
  mark = λ a x y. or-bit-left m all 63 (rw u (pow_self 63));
}

module _ (k : ℕ) (bs : List ℕ) (w : Whole k bs) (set symbols lacking : ℕ) (l : Lacks (machine k bs) (state_count bs) k lacking) where
  abbrev D₁ : Automaton
  D₁ = machine k bs

  -- whatever a state moves to by a symbol of the word, is one of all
  found_all : (all : ℕ) → Most (state_count bs) symbols lacking all → (p a : ℕ) → p < state_count bs → a < k → bit symbols a ≡ true
      → bit all (mark_of (move D₁ p a)) ≡ true
  unfolding mark_of
  found_all all m p a h i x = go (move D₁ p a) refl
    where
      go : (n : Option ℕ) → move D₁ p a ≡ n → bit all (mark_of n) ≡ true
      go none e = m.mark a x (never_false (bit lacking a) (λ b. let t = (l.total a i b).each p h in none-ne-some t.0 (sym e ∙ t.1)))
      go (some t) e = m.states t (move-known k bs w p a h i t e)

  pub successors-all : (rest r all : ℕ) → Walked (state_count bs) set (ByState D₁ k set symbols) rest r → Most (state_count bs) symbols lacking all → r ≡ all
      → Successors D₁ (state_count bs) k set symbols r
  successors-all rest r all g m f = record {
    sound = λ t b. let y = g.sound t b in let z = y.2.1 in (z.0, z.1, (z.2, (y.0, y.1, y.2.0, z.3)));
    complete = λ t a h x.
        let y = x.1 in
        ap (λ (v : ℕ). bit v t) f ∙ subst (λ (s : ℕ). bit all s ≡ true) y.3 (found_all all m y.0 a y.1 h x.0);
  }

-- ---- one state, backwards

-- what symbol a of the word gives: itself, if p moves into the set by it
abbrev pub ByInto : Automaton → ℕ → ℕ → ℕ → ℕ → ℕ → Type 0
ByInto D p into symbols a t = (a ≡ t) × (bit symbols a ≡ true) × (holds into (move D p a) ≡ true)

module _ (D : Automaton) (k p into symbols rest r a o m s : ℕ) (b : Bool) (g : Walked k symbols (ByInto D p into symbols) rest r) (low : Lowest rest a)
    (e : o ≡ 2 ^ a)
    (small : into < 2 ^ 32) (n : m ≡ mark_of (move D p a)) (h : b ≡ bit into m) where
  enters : b ≡ holds into (move D p a)
  enters = h ∙ ap (bit into) n ∙ mark-holds into (move D p a) small

  pub by-skip : b ≡ false → s ≡ r → Walked k symbols (ByInto D p into symbols) (rest - o) s
  by-skip q f = rw f (walked_skip k symbols _ rest r a o g low e (λ t x. false≢true (sym q ∙ enters ∙ x.2)))

  pub by-add : (u : ℕ) → b ≡ true → u ≡ 2 ^ a → s ≡ bit_or r u → Walked k symbols (ByInto D p into symbols) (rest - o) s
  by-add u q v f = rw (f, v) (walked_one k symbols _ rest r a o g low e a (refl, (g.known a low.here).1, sym enters ∙ q) (λ t x. x.0))

module _ (D : Automaton) (k p into symbols found : ℕ) where
  -- what is kept for the state
  module _ (to : ℕ) (m : Moves D k p symbols to) where
    to-there : (a : ℕ) → a < k → bit symbols a ≡ true → bit to (mark_of (move D p a)) ≡ true
    to-there a l x = m.complete (mark_of (move D p a)) a l (x, refl)

    pub added_none : bit_and to into ≡ 0 → Added D k p into symbols found false found
    added_none z = record {
      whether = record { sound = λ e. absurd (false≢true e); complete = λ a l x. absurd (never a l x.0 x.1) };
      sound = λ a y. inl y;
      keeps = λ a y. y;
      complete = λ a l x y. absurd (never a l x y);
    }
      where
        never : (a : ℕ) → a < k → bit symbols a ≡ true → holds into (move D p a) ≡ true → ⊥
        never a l x y =
            let t = holds-state into (move D p a) y in
            let b = subst (λ (i : ℕ). bit to i ≡ true) (mark-some (move D p a) t.0 t.1) (to-there a l x) in
            no-bit (bit_and to into) t.0 z (and-bit to into t.0 b t.2)

    module _ (small : into < 2 ^ 32) (shared : bit_and to into ≢ 0) where
      to-enters : Enters D k p into symbols true
      to-enters =
          let h = and_le_r to into in
          let b = some_of (bit_and to into) (omega arith) shared in
          let t = of-and-bit to into b.0 b.1 in
          let y = m.sound b.0 t.0 in
          record {
            sound = λ e. (y.0, y.1, (y.2.0, sym (mark-holds into (move D p y.0) small) ∙ ap (bit into) y.2.1 ∙ t.1));
            complete = λ a l x. refl;
          }

      pub added_all : ((a : ℕ) → a < k → Below 63 (move D p a)) → bit_and to (2 ^ 64 - 1 - into) ≡ 0 → symbols < 2 ^ 64 → none_from k symbols ≡ true
          → Within found symbols
          → Added D k p into symbols found true symbols
      added_all known z f e w = record { whether = to-enters; sound = λ a y. inr (low a y, y, inside a (low a y) y); keeps = w; complete = λ a l x y. x }
        where
          low : (a : ℕ) → bit symbols a ≡ true → a < k
          low a y = none_from-bits k symbols e a (in_bits symbols a y (bit_high symbols 64 a f y))

          inside : (a : ℕ) → a < k → bit symbols a ≡ true → holds into (move D p a) ≡ true
          inside a l x = sym (mark-holds into (move D p a) small)
              ∙ ⊎_elim (λ y. y) (λ y. absurd (no-bit (bit_and to (2 ^ 64 - 1 - into)) (mark_of (move D p a)) z y))
              (with-or-without 64 to into (mark_of (move D p a)) (mark-small (move D p a) (known a l)) (omega arith) (to-there a l x))

  -- the symbols that are not found yet
  module _ (new : ℕ) (fs : symbols < 2 ^ 64) (ff : found < 2 ^ 64) (g : By D k p into (bit_and symbols (2 ^ 64 - 1 - found)) new) where
    of-new : (a : ℕ) → bit new a ≡ true → (a < k) × (bit symbols a ≡ true) × (holds into (move D p a) ≡ true)
    of-new a y =
        let t = g.sound a y in
        subst (λ (i : ℕ). (i < k) × (bit symbols i ≡ true) × (holds into (move D p i) ≡ true)) t.2.0
        (t.1, (of-and-bit symbols (2 ^ 64 - 1 - found) t.0 t.2.1).0, t.2.2)

    in_new : (a : ℕ) → a < k → bit symbols a ≡ true → holds into (move D p a) ≡ true → (bit found a ≡ true) ⊎ (bit new a ≡ true)
    in_new a l x y = ⊎_elim inl (λ z. inr (g.complete a a l (refl, z, y))) (with-or-without 64 symbols found a (bit_high symbols 64 a fs x) ff x)

    pub added_more : Enters D k p into symbols true → Added D k p into symbols found true (bit_or new found)
    added_more e = record {
      whether = e;
      sound = λ a y. ⊎_elim (λ z. inr (of-new a z)) inl (of-or-bit new found a y);
      keeps = λ a y. or-bit-right new found a y;
      complete = λ a l x y. ⊎_elim (or-bit-right new found a) (or-bit-left new found a) (in_new a l x y);
    }

    pub added_new : new < 2 ^ 64 → new ≢ 0 → Added D k p into symbols found true (bit_or new found)
    added_new h d =
        let b = some_of new h d in
        let t = of-new b.0 b.1 in
        added_more (record { sound = λ e. (b.0, t.0, (t.1, t.2)); complete = λ a l x. refl })

    module _ (z : new ≡ 0) where
      in_found : (a : ℕ) → a < k → bit symbols a ≡ true → holds into (move D p a) ≡ true → bit found a ≡ true
      in_found a l x y = ⊎_elim (λ f. f) (λ n. absurd (no-bit new a z n)) (in_new a l x y)

      pub added_again : (b : Bool) → Enters D k p into found b → b ≡ true → Within found symbols → Added D k p into symbols found true found
      added_again b e q w =
          let t = e.sound q in
          record {
            whether = record { sound = λ e. (t.0, t.1, (w t.0 t.2.0, t.2.1)); complete = λ a l x. refl };
            sound = λ a y. inl y;
            keeps = λ a y. y;
            complete = in_found;
          }

      pub added_no : (b : Bool) → Enters D k p into found b → b ≡ false → Added D k p into symbols found false found
      added_no b e q = record {
        whether = record {
          sound = λ e. absurd (false≢true e);
          complete = λ a l x. absurd
              (false≢true (sym q ∙ e.complete a l (in_found a l x.0 x.1, x.1)));
        };
        sound = λ a y. inl y;
        keeps = λ a y. y;
        complete = in_found;
      }

  pub added_kept : (to new : ℕ) → Moves D k p symbols to → into < 2 ^ 32 → bit_and to into ≢ 0 → symbols < 2 ^ 64 → found < 2 ^ 64
      → By D k p into (bit_and symbols (2 ^ 64 - 1 - found)) new → Added D k p into symbols found true (bit_or new found)
  added_kept to new m small shared fs ff g = added_more new fs ff g (to-enters to m small shared)

-- ---- the states of a set, backwards

-- what state p of the first set gives: the symbols of the word by which it moves into the second
abbrev pub EnteringBy : Automaton → ℕ → ℕ → ℕ → ℕ → ℕ → ℕ → Type 0
EnteringBy D k from into symbols p a = (bit from p ≡ true) × ((a < k) × (bit symbols a ≡ true) × (holds into (move D p a) ≡ true))

module _ (D : Automaton) (q k symbols from into : ℕ) where
  pub entries_within : (rest found : ℕ) → Walked q from (EnteringBy D k from into symbols) rest found → Within found symbols
  entries_within rest found g a y = (g.sound a y).2.1.1

  pub entries_turn : (rest found p o r : ℕ) (b : Bool) → Walked q from (EnteringBy D k from into symbols) rest found → Lowest rest p → o ≡ 2 ^ p
      → Added D k p into symbols found b r → Walked q from (EnteringBy D k from into symbols) (rest - o) r
  entries_turn rest found p o r b g low e t = walked_step q from _ rest found p o g low e r
      (λ a y. ⊎_elim inl (λ z. inr ((g.known p low.here).1, z)) (t.sound a y)) t.keeps (λ a x. t.complete a x.1.0 x.1.1 x.1.2)

  pub entries_end : (states found : ℕ) → Gathered q (ByEntering D k from into symbols) states → Gathered q (EnteringBy D k from into symbols) found
      → Steps D q k symbols from into found states
  entries_end states found s g = record {
    by = record {
      sound = λ a y. let t = g.sound a y in let m = t.2.1 in (a, m.0, (refl, m.1, (t.0, t.1, t.2.0, m.2)));
      complete = λ t a l x.
          let m = x.2 in
          subst (λ (i : ℕ). bit found i ≡ true) x.0 (g.complete a m.0 m.1 (m.2, (l, x.1, m.3)));
    };
    of = s;
  }
