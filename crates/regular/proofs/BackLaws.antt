-- What lies on a way from the start to an accepted end: the states past each place and the symbols at it, one place after the other from the longest accepted
-- length backwards. Assumes nothing.
use mathlib.Core.Path.{◌≡◌, refl, sym, ap, subst, ◌∙◌}
use mathlib.Core.Logic.{⊎_elim}
use mathlib.Core.Bool.{true, false, cond}
use mathlib.Core.List.{List}
use Prim.Native.Nat.{ℕ, zero, suc, ◌+◌, ◌^◌, ◌≤◌, ◌<◌}
use native.Mathlib.Omega.{arith}
use lib.Bits.{bit_and, bit_or}
use lib.ListN.{length, get_or}
use Rattle.model.specs.Words.{bit, word, bits}
use Rattle.model.specs.Constraints.{Automaton, move, reached, holds}
use Rattle.laws.proofs.ListLaws.{never_true}
use Rattle.laws.proofs.WordLaws.{bit_high, or-bit-left, or-bit-right, of-or-bit}
use Rattle.laws.proofs.ShiftLaws.{and-bit, of-and-bit}
use Rattle.words.specs.Ends.{Highest}
use Rattle.rows.proofs.TrimLaws.{some-bit}
use Rattle.automata.specs.StateSets.{Steps}
use Rattle.automata.proofs.MachineLaws.{holds-state, state-holds}
use Rattle.automata.proofs.SetLaws.{no-bit}
use Rattle.inplace.specs.InTable.{Tidy}
use Rattle.inplace.proofs.Tables.{highest-most}
use Rattle.regular.specs.Paths.{Reach, Ends, Onward}
use Rattle.regular.specs.PlaceSets.{Forward, Lengths}
use Rattle.regular.specs.Backwards.{Accepted, Between, Through}
use Rattle.regular.proofs.BitLaws.{where_bit, of_where_bit}
use Rattle.regular.proofs.PathLaws.{reach-next, reach-on, reach_came, ends-here, ends_next, ends-cases}
use Rattle.regular.proofs.StateLaws.{Suited, reach-known}

-- ---- the lengths

module _ (A : Automaton) (x : List ℕ) where
  pub lengths-accepted : (longest acc ends : ℕ) (sets : List ℕ) → Highest (word x 0) longest → acc < 2 ^ 32 → acc ≡ A.accepting → Forward A x (suc longest) sets
      → Lengths 64 (word x 0) acc sets ends → Accepted A x ends
  lengths-accepted longest acc ends sets high small e f g = record {
    sound = λ l b.
        let t = g.sound l b in
        let m = t.2.2 in
        let w = t.2.1 in
        let h = highest-most (word x 0) longest t.0 high w in
        let l = bit_high acc 32 m.0 small m.1 in
        subst (λ (i : ℕ). (bit (word x 0) i ≡ true) × ((p : ℕ) × Reach A x i p × (bit A.accepting p ≡ true))) t.2.0
        (w, (m.0, f.sound t.0 m.0 (omega arith) (omega arith) m.2, ap (λ (a : ℕ). bit a m.0) (sym e) ∙ m.1));
    complete = λ l p w c b.
        let h = highest-most (word x 0) longest l high w in
        let s = high.small in
        g.complete l l (omega arith) (refl, w, (p, ap (λ (a : ℕ). bit a p) e ∙ b, f.complete l p (omega arith) c));
  }

module _ (A : Automaton) (x : List ℕ) (ends : ℕ) (accepted : Accepted A x ends) where
  -- a way to a state and one on from it make an accepted length
  way_accepted : (i p : ℕ) → Reach A x i p → (t : Ends A x i p) → bit ends (i + length t.symbols) ≡ true
  way_accepted i p c t =
      let q = holds-state A.accepting (reached A p t.symbols) t.accepted in
      accepted.complete _ q.0 t.long (reach-on A x i p t.symbols q.0 c t.allowed q.1) q.2

  -- no way goes past the longest of them
  pub past-longest : (i p a : ℕ) → ((l : ℕ) → bit ends l ≡ true → l ≤ i) → bit (word x (suc i)) a ≡ true → Reach A x i p → Onward A x (suc i) p a → ⊥
  past-longest i p a most b c o = let l = most _ (way_accepted (suc i) o.state (reach-next A x i p a o.state c b o.leads) o.ends) in omega arith

  pub nothing_through : (i w : ℕ) → w ≡ 0 → ((l : ℕ) → bit ends l ≡ true → l ≤ i) → Through A x i w
  nothing_through i w z most = record { sound = λ a b. absurd (no-bit w a z b); complete = λ a p b c t. absurd (past-longest i p a most b c t) }

  -- ---- the states past the longest accepted length

  -- the accepting states past i places, of those that are reached, where a string may end there
  module _ (i from here : ℕ) (f : ((p : ℕ) → bit from p ≡ true → Reach A x i p) × ((p : ℕ) → Reach A x i p → bit from p ≡ true)) (acc : ℕ)
      (u : acc ≡ A.accepting) (e : here ≡ cond (bit ends i) (bit_and from acc) 0) where
    here-sound : (p : ℕ) → bit here p ≡ true → Reach A x i p × Ends A x i p
    here-sound p b =
        let t = of_where_bit (bit ends i) (bit_and from acc) p (ap (λ (w : ℕ). bit w p) (sym e) ∙ b) in
        let m = of-and-bit from acc p t.1 in
        (f.0 p m.0, ends-here A x i p (accepted.sound i t.0).0 (ap (λ (w : ℕ). bit w p) (sym u) ∙ m.1))

    here-complete : (p : ℕ) → Reach A x i p → bit (word x 0) i ≡ true → bit A.accepting p ≡ true → bit here p ≡ true
    here-complete p c w b = ap (λ (w : ℕ). bit w p) e
        ∙ where_bit (bit ends i) (bit_and from acc) p (accepted.complete i p w c b)
        (and-bit from acc p (f.1 p c) (ap (λ (w : ℕ). bit w p) u ∙ b))

    pub between-last : ((l : ℕ) → bit ends l ≡ true → l ≤ i) → Between A x i here
    between-last most = record {
      sound = here-sound;
      complete = λ p c t. ⊎_elim (λ s. here-complete p c s.0 s.1) (λ g. absurd (past-longest i p g.symbol most g.allowed c g.after))
          (ends-cases A x i p t);
    }

    -- one place further back
    module _ (q k behind symbols states : ℕ) (fit : Suited A q k x) (b : Between A x (suc i) behind)
        (s : Steps A q k (word x (suc i)) from behind symbols states) where
      -- into the states behind
      onward : (p a : ℕ) → holds behind (move A p a) ≡ true → Onward A x (suc i) p a
      onward p a y = let t = holds-state behind (move A p a) y in record { state = t.0; leads = t.1; ends = (b.sound t.0 t.2).1 }

      inward : (p a : ℕ) → bit (word x (suc i)) a ≡ true → Reach A x i p → Onward A x (suc i) p a → holds behind (move A p a) ≡ true
      inward p a y c o = state-holds behind (move A p a) o.state o.leads (b.complete o.state (reach-next A x i p a o.state c y o.leads) o.ends)

      pub between_next : Between A x i (bit_or here states)
      between_next = record {
        sound = λ p y. ⊎_elim
            (here-sound p)
            (λ z.
            let t = s.of.sound p z in
            let m = t.2.2 in
            let d = t.2.0 in
            subst (λ (o : ℕ). Reach A x i o × Ends A x i o) d
            (f.0 t.0 t.2.1, ends_next A x i t.0 m.0 m.2 (onward t.0 m.0 m.3)))
            (of-or-bit here states p y);
        complete = λ p c t. ⊎_elim
            (λ s. or-bit-left here states p (here-complete p c s.0 s.1))
            (λ g.
            let a : ℕ = g.symbol in
            or-bit-right here states p (s.of.complete p p (reach-known A q k x fit i p c)
            (refl, f.1 p c, (a, fit.low i a g.allowed, g.allowed, inward p a g.allowed c g.after))))
            (ends-cases A x i p t);
      }

      pub through_next : Through A x i symbols
      through_next = record {
        sound = λ a y.
            let t = s.by.sound a y in
            let m = t.2.2 in
            let d = t.2.0 in
            subst (λ (o : ℕ). (bit (word x (suc i)) o ≡ true) × ((p : ℕ) × Reach A x i p × Onward A x (suc i) p o)) d
            (t.2.1, (m.0, f.0 m.0 m.2, onward m.0 t.0 m.3));
        complete = λ a p y c o. s.by.complete a a (fit.low i a y) (refl, y, (p, reach-known A q k x fit i p c, f.1 p c, inward p a y c o));
      }

-- ---- leaving off: from all that is reached past the next place an accepted end is reached, and no move is missing there

-- the places before lead to some state too
pub reach-before : (A : Automaton) (x : List ℕ) (d i p : ℕ) → Reach A x (i + d) p → (q : ℕ) × Reach A x i q
reach-before A x zero i p c = let e : i + 0 ≡ i = omega arith in (p, subst (λ (n : ℕ). Reach A x n p) e c)
reach-before A x (suc d) i p c =
    let e : i + suc d ≡ suc (i + d) = omega arith in
    let m = reach_came A x (i + d) p (subst (λ (n : ℕ). Reach A x n p) e c) in
    reach-before A x d i m.state m.before

module _ (A : Automaton) (q k : ℕ) (x : List ℕ) (fit : Suited A q k x) (tidy : Tidy x) (n i behind from : ℕ) (sets : List ℕ) (h : suc i < n) (f : Forward A x n sets)
    (g : ((p : ℕ) → bit from p ≡ true → Reach A x i p) × ((p : ℕ) → Reach A x i p → bit from p ≡ true)) (l : i < tidy.top) (b : Between A x (suc i) behind)
    (e : behind ≡ word sets (suc i)) where
  -- a symbol of the place
  symbol-here : (a : ℕ) × (bit (word x (suc i)) a ≡ true)
  symbol-here = (get_or (bits (word x (suc i))) 0 0, some-bit (word x (suc i)) (fit.words (suc i)) (tidy.filled i l))

  unmarked : bit (word sets (suc i)) 63 ≡ false
  unmarked = ap (λ (w : ℕ). bit w 63) (sym e) ∙ never_true (bit behind 63) (λ y.
      let m = reach-known A q k x fit (suc i) 63 (b.sound 63 y).0 in
      let s = fit.few in
      omega arith)

  all-ends : (p a : ℕ) → Reach A x i p → bit (word x (suc i)) a ≡ true → Onward A x (suc i) p a
  all-ends p a c y =
      let t = f.moves i p a h c y unmarked in
      record {
        state = t.0;
        leads = t.1;
        ends = (b.sound t.0 (ap (λ (w : ℕ). bit w t.0) e ∙ f.complete (suc i) t.0 h (reach-next A x i p a t.0 c y t.1))).1;
      }

  pub between-all : Between A x i from
  between-all = record {
    sound = λ p y. let c = g.0 p y in let a = symbol-here in (c, ends_next A x i p a.0 a.1 (all-ends p a.0 c a.1));
    complete = λ p c t. g.1 p c;
  }

  pub through_all : (p : ℕ) → Reach A x i p → Through A x i (word x (suc i))
  through_all p c = record { sound = λ a y. (y, (p, c, all-ends p a c y)); complete = λ a p y c t. y }
