-- Regular by support: the lengths and the symbols that the loops keep are those that accepted strings of the row use. Assumes nothing.
use mathlib.Core.Path.{◌≡◌, refl, sym, ap, subst, ◌∙◌}
use mathlib.Core.Bool.{Bool, true, false, false≢true}
use mathlib.Core.List.{List, [], ◌∷◌, ◌++◌}
use mathlib.Core.Option.{some}
use Prim.Native.Nat.{ℕ, zero, suc, ◌+◌, ◌-◌, ◌^◌, ◌≤◌, ◌<◌}
use native.Mathlib.Omega.{arith}
use lib.Bits.{bit_and, bit_or}
use lib.ListN.{length, get_or, take, drop, length-append, length-drop}
use lib.Seq.{split_at, take-length, length-take-le, get_or_at}
use Rattle.model.specs.Words.{bit, word, Words}
use Rattle.model.specs.Constraints.{Automaton, move, reached, holds, accepts, regular, variables, meets}
use Rattle.model.specs.Solutions.{text_bit}
use Rattle.model.specs.Support.{narrowed}
use Rattle.laws.specs.Supported.{InRow, Supports}
use Rattle.laws.proofs.RowLaws.{used-length, used-symbol, symbol-inside}
use Rattle.rows.specs.Rows.{alone}
use Rattle.rows.proofs.Windows.{uses-symbol, uses-length}
use Rattle.words.specs.Ends.{Lowest}
use Rattle.automata.specs.StateSets.{Leads}
use Rattle.automata.proofs.MachineLaws.{holds-state, state-holds}
use Rattle.automata.proofs.SetLaws.{Walked, walked_skip, walked_one}
use Rattle.regular.specs.Paths.{Reach, Onward}
use Rattle.regular.specs.Backwards.{Accepted, Through}
use Rattle.regular.proofs.PathLaws.{reached-append, reached-on, reached-first, holds-bind, allowed-first, first-allowed, allowed-cons, allowed-append, allowed-take, allowed-drop}
use Rattle.regular.proofs.BitLaws.{meeting-bit, no-meeting-bit}
use Rattle.rows.proofs.OneString.{Passing, one-narrowed}

-- ---- the loop over lengths

-- what length l of the word gives: itself, if its set has an accepting state
abbrev pub Ending : ℕ → ℕ → List ℕ → ℕ → ℕ → Type 0
Ending allowed accepting sets l t = (l ≡ t) × (bit allowed l ≡ true) × ((p : ℕ) × (bit accepting p ≡ true) × (bit (word sets l) p ≡ true))

module _ (allowed accepting : ℕ) (sets : List ℕ) (rest r l o s : ℕ) (g : Walked 64 allowed (Ending allowed accepting sets) rest r) (low : Lowest rest l)
    (e : o ≡ 2 ^ l) where
  pub lengths-skip : bit_and accepting (word sets l) ≡ 0 → s ≡ r → Walked 64 allowed (Ending allowed accepting sets) (rest - o) s
  lengths-skip z q = rw q (walked_skip 64 allowed _ rest r l o g low e (λ t x. no-meeting-bit accepting (word sets l) x.2.0 z x.2.1 x.2.2))

  pub lengths-add : (u : ℕ) → accepting < 2 ^ 32 → (bit_and accepting (word sets l) ≡ 0 → ⊥) → u ≡ 2 ^ l → s ≡ bit_or r u
      → Walked 64 allowed (Ending allowed accepting sets) (rest - o) s
  lengths-add u h ne v w =
      let m = meeting-bit accepting (word sets l) h ne in
      rw (w, v) (walked_one 64 allowed _ rest r l o g low e l (refl, (g.known l low.here).1, (m.0, m.1, m.2)) (λ t x. x.0))

-- ---- the loop over symbols

-- what symbol a of the word gives: itself, if a state of the first set moves into the second by it
abbrev pub Leading : Automaton → ℕ → ℕ → ℕ → ℕ → ℕ → ℕ → Type 0
Leading A q allowed before after a t = (a ≡ t) × (bit allowed a ≡ true) × ((p : ℕ) × (p < q) × (bit before p ≡ true) × (holds after (move A p a) ≡ true))

module _ (A : Automaton) (q k allowed before after rest r a o s : ℕ) (b : Bool) where
  module _ (g : Walked k allowed (Leading A q allowed before after) rest r) (low : Lowest rest a) (e : o ≡ 2 ^ a) (x : Leads A q before after a b) where
    pub symbols-skip : b ≡ false → s ≡ r → Walked k allowed (Leading A q allowed before after) (rest - o) s
    symbols-skip h u = rw u (walked_skip k allowed _ rest r a o g low e (λ t y. let z = y.2 in false≢true (sym h ∙ x.complete z.0 z.1 (z.2, z.3))))

    pub symbols-add : (u : ℕ) → b ≡ true → u ≡ 2 ^ a → s ≡ bit_or r u → Walked k allowed (Leading A q allowed before after) (rest - o) s
    symbols-add u h v w =
        let y = x.sound h in
        rw (w, v) (walked_one k allowed _ rest r a o g low e a (refl, (g.known a low.here).1, (y.0, y.1, y.2.0, y.2.1)) (λ t z. z.0))

-- ---- strings and ways

module _ (A : Automaton) (x : List ℕ) where
  -- a way to an accepting state, with a length that is allowed
  length-string : (l p : ℕ) → Reach A x l p → bit (word x 0) l ≡ true → bit A.accepting p ≡ true → (w : List ℕ) × Passing (accepts A) x w ×
      (bit (text_bit w 0) l ≡ true)
  unfolding accepts
  length-string l p f e b = (
    f.symbols,
    record {
      inside = record { length-bit = subst (λ (n : ℕ). bit (word x 0) n ≡ true) (sym f.long) e; symbol-bits = first-allowed x f.symbols f.allowed };
      meeting = state-holds A.accepting (reached A 0 f.symbols) p f.leads b;
    },
    uses-length f.symbols l f.long,
  )

  -- a way to a state, a move from it, and a way on to an accepted end
  symbol-string : (j p a : ℕ) → Reach A x j p → bit (word x (suc j)) a ≡ true → Onward A x (suc j) p a → (w : List ℕ) × Passing (accepts A) x w ×
      (bit (text_bit w (suc j)) a ≡ true)
  unfolding accepts
  symbol-string j p a f b o =
      let e = o.ends in
      let u : List ℕ = f.symbols in
      let v : List ℕ = e.symbols in
      let n : length u ≡ j = f.long in
      let size : length (u ++ a ∷ v) ≡ suc j + length v = omega (arith, length-append u (a ∷ v)) in (
        u ++ a ∷ v,
        record {
          inside = record {
            length-bit = subst (λ (m : ℕ). bit (word x 0) m ≡ true) (sym size) e.long;
            symbol-bits = first-allowed x (u ++ a ∷ v) (allowed-append x u (a ∷ v) j n f.allowed (allowed-cons x j a v b e.allowed));
          };
          meeting = ap (holds A.accepting) (reached-on A 0 u (a ∷ v) p f.leads ∙ reached-first A p a v o.state o.leads) ∙ e.accepted;
        },
        uses-symbol (u ++ a ∷ v) j a (omega arith) (get_or_at u a v 0 j n),
      )

  -- a string's own ways: what it reaches past its first j symbols, and by the next one
  string-reach : (w : List ℕ) → InRow x w → (j p : ℕ) → j ≤ length w → reached A 0 (take j w) ≡ some p → Reach A x j p
  string-reach w i j p h e = record {
    symbols = take j w;
    long = length-take-le j w h;
    allowed = allowed-take x w j h (allowed-first x w i.symbol-bits);
    leads = e;
  }

  string_ways : (w : List ℕ) → Passing (accepts A) x w → (j : ℕ) → j < length w → (p : ℕ) × Reach A x j p × Onward A x (suc j) p (get_or w j 0)
  unfolding accepts reached
  string_ways w m j h =
      let n : length w ≡ suc j + length (drop (suc j) w) = omega (arith, length-drop (suc j) w) in
      let u = holds-bind A.accepting (reached A 0 (take j w)) (λ q. reached A q (get_or w j 0 ∷ drop (suc j) w))
      (ap (holds A.accepting) (sym (reached-append A 0 (take j w) (get_or w j 0 ∷ drop (suc j) w)) ∙ ap (reached A 0) (sym (split_at w j 0 h))) ∙ m.meeting) in
      let v = holds-bind A.accepting (move A u.0 (get_or w j 0)) (λ q. reached A q (drop (suc j) w)) u.2 in (
        u.0,
        string-reach w m.inside j u.0 (omega arith) u.1,
        record {
          state = v.0;
          leads = v.1;
          ends = record {
            symbols = drop (suc j) w;
            long = subst (λ (k : ℕ). bit (word x 0) k ≡ true) n m.inside.length-bit;
            allowed = allowed-drop x w (suc j) (allowed-first x w m.inside.symbol-bits);
            accepted = v.2;
          };
        },
      )

-- ---- support

module _ (A : Automaton) (x r : List ℕ) (size : length x ≡ 64) (bd : Words x) (wide : length r ≡ 64) (lengths : Accepted A x (word r 0))
    (places : (j : ℕ) → j < 63 → Through A x j (word r (suc j))) where
  pub length-sound : (l : ℕ) → bit (word r 0) l ≡ true → (w : List ℕ) × Passing (accepts A) x w × (bit (text_bit w 0) l ≡ true)
  length-sound l b = let t = lengths.sound l b in let m = t.1 in length-string A x l m.0 m.1 t.0 m.2

  symbol-sound : (j a : ℕ) → j < 63 → bit (word r (suc j)) a ≡ true → (w : List ℕ) × Passing (accepts A) x w × (bit (text_bit w (suc j)) a ≡ true)
  symbol-sound j a h b = let t = (places j h).sound a b in let m = t.1 in symbol-string A x j m.0 a m.1 t.0 m.2

  length-stays : (l : ℕ) (w : List ℕ) → Passing (accepts A) x w → bit (text_bit w 0) l ≡ true → bit (word r 0) l ≡ true
  unfolding accepts
  length-stays l w m e =
      let n : length w ≡ l = used-length w l e in
      let a = holds-state A.accepting (reached A 0 w) m.meeting in
      subst (λ (i : ℕ). bit (word r 0) i ≡ true) n
      (lengths.complete (length w) a.0 m.inside.length-bit
      (string-reach A x w m.inside (length w) a.0 (omega arith) (ap (reached A 0) (take-length w) ∙ a.1)) a.2)

  pub symbol-stays : (j a : ℕ) → j < 63 → (w : List ℕ) → Passing (accepts A) x w → bit (text_bit w (suc j)) a ≡ true → bit (word r (suc j)) a ≡ true
  symbol-stays j a h w m e =
      let l = symbol-inside w j a e in
      let t = string_ways A x w m j l in
      subst (λ (i : ℕ). bit (word r (suc j)) i ≡ true) (used-symbol w j a e)
      ((places j h).complete (get_or w j 0) t.0 (m.inside.symbol-bits j l) t.1 t.2)

  through_supports : Supports (Passing (accepts A) x) text_bit 64 r
  through_supports = record {
    count = wide;
    sound = elim [ zero ↦ λ l h e. length-sound l e | suc j ↦ λ a h e. symbol-sound j a (omega arith) e ];
    complete = elim [ zero ↦ λ l h w m e. length-stays l w m e | suc j ↦ λ a h w m e. symbol-stays j a (omega arith) w m e ];
  }

  pub regular-narrowed : r ≡ narrowed (alone 1 0 (A ∷ [])) (regular 0 0) x
  unfolding variables meets alone
  regular-narrowed = one-narrowed (A ∷ []) (regular 0 0) (accepts A) refl (λ α. refl) x size bd r through_supports
