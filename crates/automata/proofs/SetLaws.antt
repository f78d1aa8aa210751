-- Loops that gather a set: the set bits of a word are taken one after the other, and each adds nothing or a set of its own. Assumes nothing.
use Rattle.std.proofs.Common.{◌≡◌, ℕ, ◌+◌, ◌-◌, ◌^◌, ◌<◌, ◌≤◌, Bool, true, false, not, eqb, ◌⊎◌, sym, refl, ap, ◌∙◌, subst, inl, inr, ⊎_elim, arith, eqb-true}
use mathlib.Core.Bool.{false≢true}
use lib.Bits.{bit_and, bit_or}
use borrow.Author.Tests.{eqb-false}
use Rattle.model.specs.Words.{bit}
use mathlib.Core.Option.{Option}
use Rattle.model.specs.Constraints.{Automaton, move, holds}
use Rattle.laws.proofs.ListLaws.{true_and}
use Rattle.laws.proofs.WordLaws.{zero_bit, pow_self, pow-only, or-bit-left, or-bit-right, of-or-bit, bit_high, bit-sub, sub_within}
use Rattle.laws.proofs.ShiftLaws.{and-bit, of-and-bit}
use Rattle.words.specs.Ends.{Lowest}
use Rattle.automata.specs.Machine.{mark_of}
use Rattle.automata.specs.StateSets.{Gathered, Found, LowBits, Moves, Enters, Successors}
use Rattle.automata.proofs.MachineLaws.{mark-holds}

-- a word that is 0 has no bit
pub no-bit : (w i : ℕ) → w ≡ 0 → bit w i ≡ true → ⊥
no-bit w i e b = false≢true (sym (zero_bit i) ∙ ap (λ (v : ℕ). bit v i) (sym e) ∙ b)

-- what holds below q and at q, holds below one more
pub one_more : (F : ℕ → Type 0) (q : ℕ) → ((p : ℕ) → p < q → F p) → F q → (p : ℕ) → p < q + 1 → F p
one_more F q below here p l = go (eqb p q) refl
  where
    go : (t : Bool) → eqb p q ≡ t → F p
    go true z = subst F (sym (eqb-true p q z)) here
    go false z = let d = eqb-false p q z in below p (omega arith)

module _ (E : ℕ → ℕ → Type 0) where
  -- nothing is given at all
  pub gathered_empty : (n : ℕ) → ((i t : ℕ) → E i t → ⊥) → Gathered n E 0
  gathered_empty n never = record { sound = λ t e. absurd (false≢true (sym (zero_bit t) ∙ e)); complete = λ t i h x. absurd (never i t x) }

-- ---- loops over the set bits of a word, the lowest first

-- the bits of w below n, by a word m that has all bits below n and no other
pub low-common : (n w m : ℕ) → ((j : ℕ) → bit m j ≡ true → j < n) × ((j : ℕ) → j < n → bit m j ≡ true) → LowBits n w (bit_and w m)
low-common n w m below = record {
  sound = λ i h. let t = of-and-bit w m i h in (below.0 i t.1, t.0);
  complete = λ i l h. and-bit w m i h (below.1 i l);
}

-- a word of 64 bits has none at 64 or above
pub low-all : (n w : ℕ) → n ≤ 64 → 64 ≤ n → w < 2 ^ 64 → LowBits n w w
low-all n w l g f = record { sound = λ i h. let t = bit_high w 64 i f h in (omega arith, h); complete = λ i h b. b }

-- r has what E gives for the numbers below n, but for those that are still to come: the bits of rest, which are bits of w
pub record Walked (n w : ℕ) (E : ℕ → ℕ → Type 0) (rest r : ℕ) : Type 0 where
  pub known : (i : ℕ) → bit rest i ≡ true → (i < n) × (bit w i ≡ true)
  pub sound : (t : ℕ) → bit r t ≡ true → (i : ℕ) × (i < n) × E i t
  pub complete : (t i : ℕ) → i < n → E i t → (bit r t ≡ true) ⊎ (bit rest i ≡ true)

-- E gives something for bits of w alone
pub walked_start : (n w : ℕ) (E : ℕ → ℕ → Type 0) (rest : ℕ) → ((i t : ℕ) → E i t → bit w i ≡ true) → LowBits n w rest → Walked n w E rest 0
walked_start n w E rest here low = record {
  known = low.sound;
  sound = λ t e. absurd (false≢true (sym (zero_bit t) ∙ e));
  complete = λ t i h x. inr (low.complete i h (here i t x));
}

module _ (n w : ℕ) (E : ℕ → ℕ → Type 0) (rest r : ℕ) where
  -- nothing is still to come
  pub walked_end : rest ≡ 0 → Walked n w E rest r → Gathered n E r
  walked_end e g = record { sound = g.sound; complete = λ t i h x. ⊎_elim (λ b. b) (λ b. absurd (no-bit rest i e b)) (g.complete t i h x) }

  -- the next bit is one of the n
  pub walked_next : (a : ℕ) → Walked n w E rest r → Lowest rest a → a < n
  walked_next a g low = (g.known a low.here).0

  module _ (a o : ℕ) (g : Walked n w E rest r) (low : Lowest rest a) (e : o ≡ 2 ^ a) where
    -- what is left was there
    left : (i : ℕ) → bit (rest - o) i ≡ true → bit rest i ≡ true
    left i h = sub_within rest a low.here i (ap (λ (v : ℕ). bit (rest - v) i) (sym e) ∙ h)

    -- v has what r has and what bit a gives, and no more
    pub walked_step : (v : ℕ) → ((t : ℕ) → bit v t ≡ true → (bit r t ≡ true) ⊎ E a t) → ((t : ℕ) → bit r t ≡ true → bit v t ≡ true) →
        ((t : ℕ) → E a t → bit v t ≡ true)
        → Walked n w E (rest - o) v
    walked_step v only keeps all = record {
      known = λ i h. g.known i (left i h);
      sound = λ t h. ⊎_elim (g.sound t) (λ x. (a, walked_next a g low, x)) (only t h);
      complete = λ t i h x. go t i x (eqb a i) refl (g.complete t i h x);
    }
      where
        go : (t i : ℕ) → E i t → (c : Bool) → eqb a i ≡ c → (bit r t ≡ true) ⊎ (bit rest i ≡ true) → (bit v t ≡ true) ⊎ (bit (rest - o) i ≡ true)
        go t i x true q y = inl (all t (subst (λ (j : ℕ). E j t) (sym (eqb-true a i q)) x))
        go t i x false q (inl y) = inl (keeps t y)
        go t i x false q (inr y) = inr (rw e (bit-sub rest a i low.here ∙ true_and y (ap not q)))

    -- bit a gives nothing
    pub walked_skip : ((t : ℕ) → E a t → ⊥) → Walked n w E (rest - o) r
    walked_skip never = walked_step r (λ t h. inl h) (λ t h. h) (λ t x. absurd (never t x))

    -- bit a gives the set s
    pub walked-add : (s : ℕ) → ((t : ℕ) → bit s t ≡ true → E a t) → ((t : ℕ) → E a t → bit s t ≡ true) → Walked n w E (rest - o) (bit_or r s)
    walked-add s only all = walked_step (bit_or r s) (λ t h. ⊎_elim inl (λ x. inr (only t x)) (of-or-bit r s t h)) (or-bit-left r s)
        (λ t x. or-bit-right r s t (all t x))

    -- bit a gives the one number m
    pub walked_one : (m : ℕ) → E a m → ((t : ℕ) → E a t → m ≡ t) → Walked n w E (rest - o) (bit_or r (2 ^ m))
    walked_one m here single = walked-add (2 ^ m)
        (λ t h. subst (E a) (sym (pow-only m t h)) here)
        (λ t x. subst (λ (j : ℕ). bit (2 ^ m) j ≡ true) (single t x) (pow_self m))

-- ---- loops that stop at the first bit that leads into a set: as long as they go on, nothing is gathered

-- bit i of w leads into the set by the move f
abbrev pub Hit : ℕ → ℕ → (ℕ → Option ℕ) → ℕ → Type 0
Hit w set f i = (bit w i ≡ true) × (holds set (f i) ≡ true)

module _ (n w set : ℕ) (f : ℕ → Option ℕ) (rest : ℕ) (g : Walked n w (λ i t. Hit w set f i) rest 0) where
  pub hit-none : rest ≡ 0 → Found n (Hit w set f) false
  hit-none e = record {
    sound = λ q. absurd (false≢true q);
    complete = λ i h x. absurd (no-bit 0 0 refl ((walked_end n w (λ i t. Hit w set f i) rest 0 e g).complete 0 i h x));
  }

  module _ (a m : ℕ) (small : set < 2 ^ 32) (low : Lowest rest a) (q : m ≡ mark_of (f a)) where
    there : bit set m ≡ holds set (f a)
    there = ap (bit set) q ∙ mark-holds set (f a) small

    pub hit-one : bit set m ≡ true → Found n (Hit w set f) true
    hit-one h = record { sound = λ t. (a, walked_next n w _ rest 0 a g low, ((g.known a low.here).1, sym there ∙ h)); complete = λ i l x. refl }

    pub hit-skip : (o : ℕ) → o ≡ 2 ^ a → bit set m ≡ false → Walked n w (λ i t. Hit w set f i) (rest - o) 0
    hit-skip o e h = walked_skip n w _ rest 0 a o g low e (λ t x. false≢true (sym h ∙ there ∙ x.1))

-- ---- the loops over the states of a set and over the symbols of a word

-- what symbol a of the word gives: the bit of the move from p
abbrev pub BySymbol : Automaton → ℕ → ℕ → ℕ → ℕ → Type 0
BySymbol A p symbols a t = (bit symbols a ≡ true) × (mark_of (move A p a) ≡ t)

-- what state p of the set gives: the bits of its moves by a symbol of the word
abbrev pub ByState : Automaton → ℕ → ℕ → ℕ → ℕ → ℕ → Type 0
ByState A k set symbols p t = (bit set p ≡ true) × ((a : ℕ) × (a < k) × (bit symbols a ≡ true) × (mark_of (move A p a) ≡ t))

-- what state p of the first set gives: itself, if it moves into the second by a symbol of the word
abbrev pub ByEntering : Automaton → ℕ → ℕ → ℕ → ℕ → ℕ → ℕ → Type 0
ByEntering A k from into symbols p t = (p ≡ t) × (bit from p ≡ true) × ((a : ℕ) × (a < k) × (bit symbols a ≡ true) × (holds into (move A p a) ≡ true))

module _ (A : Automaton) (k symbols : ℕ) where
  pub moves-add : (p rest r a o m u : ℕ) → Walked k symbols (BySymbol A p symbols) rest r → Lowest rest a → o ≡ 2 ^ a → m ≡ mark_of (move A p a) → u ≡ 2 ^ m
      → Walked k symbols (BySymbol A p symbols) (rest - o) (bit_or r u)
  moves-add p rest r a o m u g low e n f = rw f (walked_one k symbols _ rest r a o g low e m ((g.known a low.here).1, sym n) (λ t x. n ∙ x.1))

  module _ (q from into rest r p o s : ℕ) (b : Bool) (g : Walked q from (ByEntering A k from into symbols) rest r) (low : Lowest rest p) (e : o ≡ 2 ^ p)
      (x : Enters A k p into symbols b) where
    pub entering-skip : b ≡ false → s ≡ r → Walked q from (ByEntering A k from into symbols) (rest - o) s
    entering-skip h f = rw f (walked_skip q from _ rest r p o g low e (λ t y. let z = y.2 in false≢true (sym h ∙ x.complete z.0 z.1 (z.2, z.3))))

    pub entering-add : (u : ℕ) → b ≡ true → u ≡ 2 ^ p → s ≡ bit_or r u → Walked q from (ByEntering A k from into symbols) (rest - o) s
    entering-add u h v f =
        let y = x.sound h in
        rw (f, v) (walked_one q from _ rest r p o g low e p (refl, (g.known p low.here).1, (y.0, y.1, y.2.0, y.2.1)) (λ t z. z.0))

  module _ (q set : ℕ) where
    pub successors-add : (rest r p o u : ℕ) → Walked q set (ByState A k set symbols) rest r → Lowest rest p → o ≡ 2 ^ p → Moves A k p symbols u
        → Walked q set (ByState A k set symbols) (rest - o) (bit_or r u)
    successors-add rest r p o u g low e x = walked-add q set _ rest r p o g low e u
        (λ t b. let y = x.sound t b in ((g.known p low.here).1, (y.0, y.1, y.2.0, y.2.1)))
        (λ t y. x.complete t y.1.0 y.1.1 (y.1.2, y.1.3))

    pub successors-end : (r : ℕ) → Gathered q (ByState A k set symbols) r → Successors A q k set symbols r
    successors-end r g = record {
      sound = λ t b. let y = g.sound t b in let z = y.2.1 in (z.0, z.1, (z.2, (y.0, y.1, y.2.0, z.3)));
      complete = λ t a h x. let y = x.1 in g.complete t y.0 y.1 (y.2, (a, h, x.0, y.3));
    }
