-- The sets of states that the loop forwards makes, turn by turn. Assumes nothing.
use mathlib.Core.Path.{◌≡◌, refl, sym, ap, subst, ◌∙◌}
use mathlib.Core.Logic.{◌⊎◌, inl, inr}
use mathlib.Core.Bool.{Bool, true, false, false≢true}
use mathlib.Core.List.{List}
use mathlib.Core.Option.{some}
use Prim.Native.Nat.{ℕ, zero, suc, ◌+◌, ◌*◌, ◌^◌, ◌≤◌, ◌<◌}
use native.Mathlib.Nat.{eq-or-lt_of_le}
use native.Mathlib.Numerals.{add-one}
use native.Mathlib.Omega.{arith}
use lib.Dec.{ltb}
use lib.ListN.{length, get_or, set, get_or-eq_default}
use lib.Seq.{get_or-set_same, get_or-set_other}
use borrow.Author.Tests.{ltb-true, ltb-false}
use Rattle.model.specs.Lists.{all, from}
use Rattle.model.specs.Words.{bit, none_from, word, Words}
use Rattle.model.specs.Domains.{row}
use Rattle.model.specs.Reading.{symbols_below}
use Rattle.laws.proofs.ListLaws.{of-all, in_upto, in_from}
use Rattle.laws.proofs.DomainLaws.{row_word}
use Rattle.model.specs.Constraints.{Automaton, move}
use Rattle.laws.proofs.WordLaws.{zero_bit, pow_self, pow-only, in_bits, none_from-bits}
use Rattle.automata.specs.Machine.{state_count, machine, Whole}
use Rattle.automata.specs.StateSets.{LowBits, Successors}
use Rattle.automata.proofs.MachineLaws.{move-known, mark-state, mark-some, mark-move}
use Rattle.regular.specs.Paths.{Reach}
use Rattle.regular.specs.PlaceSets.{Alphabet, Forward}
use Rattle.regular.proofs.PathLaws.{reach-start, start-only, reach-next, reach_came}

-- ---- what the refusals leave

symbol-below : (k : ℕ) (x : List ℕ) → length x ≡ 64 → Words x → Alphabet k x → (i a : ℕ) → bit (word x (suc i)) a ≡ true → a < k
symbol-below k x n bd h i a e = go (ltb i 63) refl
  where
    go : (t : Bool) → ltb i 63 ≡ t → a < k
    go true q = none_from-bits k (word x (suc i)) (h.below i (ltb-true i 63 q)) a (in_bits (word x (suc i)) a e (bd (suc i) a e))
    go false q =
        let l = ltb-false i 63 q in
        absurd (false≢true (sym (zero_bit a) ∙ ap (λ (w : ℕ). bit w a) (sym (get_or-eq_default x 0 (omega arith))) ∙ e))

-- refusals 6 and 10 leave rows over k symbols
pub row-alphabet : (k s : ℕ) (T : List ℕ) (x : ℕ) → symbols_below k s T ≡ true → x < s → Alphabet k (row T x)
unfolding symbols_below
row-alphabet k s T x e h = record {
  below = λ j l. ap (none_from k) (row_word T x (suc j) (omega arith))
      ∙ of-all (λ i. none_from k (word T (64 * x + i))) (of-all (λ x. all (λ i. none_from k (word T (64 * x + i))) (from 1 63)) e (in_upto s x h))
      (in_from 1 63 (suc j) (omega arith) (omega arith));
}

-- an automaton of q states over k symbols, and a row over these symbols
pub record Suited (A : Automaton) (q k : ℕ) (x : List ℕ) : Type 0 where
  pub start : 0 < q
  pub few : q ≤ 32
  pub known : (p a t : ℕ) → p < q → a < k → move A p a ≡ some t → t < q
  pub low : (i a : ℕ) → bit (word x (suc i)) a ≡ true → a < k
  pub size : length x ≡ 64
  pub words : Words x

pub machine-suited : (k : ℕ) (bs x : List ℕ) → Whole k bs → Alphabet k x → length x ≡ 64 → Words x → Suited (machine k bs) (state_count bs) k x
machine-suited k bs x w h n bd = record {
  start = w.some-state;
  few = w.most-states;
  known = λ p a t l m e. move-known k bs w p a l m t e;
  low = symbol-below k x n bd h;
  size = n;
  words = bd;
}

-- ---- forwards

module _ (A : Automaton) (x sets : List ℕ) where
  pub forward-start : word sets 0 ≡ 2 ^ 0 → Forward A x 1 sets
  forward-start e = record {
    sound = λ i p h m b.
        let z : i ≡ 0 = omega arith in
        let b₀ : bit (2 ^ 0) p ≡ true = ap (λ (w : ℕ). bit w p) (sym e) ∙ ap (λ (j : ℕ). bit (word sets j) p) (sym z) ∙ b in
        subst (λ (j : ℕ). Reach A x j p) (sym z) (subst (Reach A x 0) (sym (pow-only 0 p b₀)) (reach-start A x));
    complete = λ i p h r.
        let z : i ≡ 0 = omega arith in
        let p₀ : p ≡ 0 = start-only A x p (subst (λ (j : ℕ). Reach A x j p) z r) in
        ap (λ (j : ℕ). bit (word sets j) p) z ∙ ap (λ (w : ℕ). bit w p) e ∙ ap (bit (2 ^ 0)) p₀ ∙ pow_self 0;
    moves = λ i p a h. absurd (omega arith);
  }

  pub forward-less : (n m : ℕ) → m ≤ n → Forward A x n sets → Forward A x m sets
  forward-less n m l f = record {
    sound = λ i p h. f.sound i p (omega arith);
    complete = λ i p h. f.complete i p (omega arith);
    moves = λ i p a h. f.moves i p a (omega arith);
  }

module _ (A : Automaton) (q k : ℕ) (x : List ℕ) (fit : Suited A q k x) where
  -- what is reached is a state
  pub reach-known : (i p : ℕ) → Reach A x i p → p < q
  reach-known zero p r = subst (λ (s : ℕ). s < q) (sym (start-only A x p r)) fit.start
  reach-known (suc i) p r =
      let c = reach_came A x i p r in
      fit.known c.state c.symbol p (reach-known i c.state c.before) (fit.low i c.symbol c.allowed) c.leads

  pub forward-step : (i r : ℕ) (sets : List ℕ) → i + 1 < length sets → Forward A x (i + 1) sets → Successors A q k (word sets i) (word x (i + 1)) r
      → Forward A x (i + 1 + 1) (set sets (i + 1) r)
  forward-step i r sets n f s = record {
    sound = λ j p h m b. sound-at j p m b (eq-or-lt_of_le (below j h));
    complete = λ j p h w. complete-at j p w (eq-or-lt_of_le (below j h));
    moves = λ j p a h w b z. moves-at j p a w b z (eq-or-lt_of_le (below (suc j) h));
  }
    where
      below : (j : ℕ) → j < i + 1 + 1 → j ≤ i + 1
      below j h = omega arith

      here : get_or (set sets (i + 1) r) (i + 1) 0 ≡ r
      here = get_or-set_same sets (i + 1) r 0 n

      other : (j : ℕ) → j < i + 1 → get_or (set sets (i + 1) r) j 0 ≡ get_or sets j 0
      other j h = get_or-set_other sets (i + 1) j r 0 (omega arith)

      sound-at : (j p : ℕ) → p < 63 → bit (word (set sets (i + 1) r) j) p ≡ true → (j ≡ i + 1) ⊎ (j < i + 1) → Reach A x j p
      sound-at j p small b (inl e) =
          let t = s.sound p (ap (λ (w : ℕ). bit w p) (sym here) ∙ ap (λ (m : ℕ). bit (word (set sets (i + 1) r) m) p) (sym e) ∙ b) in
          let a : ℕ = t.0 in
          let m = t.2.1 in
          let l = m.1 in
          let q₁ = fit.few in
          let w = reach-next A x i m.0 a p (f.sound i m.0 (omega arith) (omega arith) m.2) (subst (λ (n : ℕ). bit (word x n) a ≡ true) (add-one i) t.2.0)
          (mark-state (move A m.0 a) p small m.3) in
          let z : suc i ≡ j = omega arith in
          subst (λ (m : ℕ). Reach A x m p) z w
      sound-at j p small b (inr h) = f.sound j p h small (ap (λ (w : ℕ). bit w p) (sym (other j h)) ∙ b)

      complete-at : (j p : ℕ) → Reach A x j p → (j ≡ i + 1) ⊎ (j < i + 1) → bit (word (set sets (i + 1) r) j) p ≡ true
      complete-at j p w (inl e) =
          let z : j ≡ suc i = omega arith in
          let c = reach_came A x i p (subst (λ (m : ℕ). Reach A x m p) z w) in
          let a : ℕ = c.symbol in
          let b = f.complete i c.state (omega arith) c.before in
          ap (λ (m : ℕ). bit (word (set sets (i + 1) r) m) p) e ∙ ap (λ (m : ℕ). bit m p) here
          ∙ s.complete p a (fit.low i a c.allowed) (
            subst (λ (m : ℕ). bit (word x m) a ≡ true) (sym (add-one i)) c.allowed,
            (c.state, reach-known i c.state c.before, b, mark-some (move A c.state a) p c.leads),
          )
      complete-at j p w (inr h) = ap (λ (m : ℕ). bit m p) (other j h) ∙ f.complete j p h w

      moves-at : (j p a : ℕ) → Reach A x j p → bit (word x (suc j)) a ≡ true → bit (word (set sets (i + 1) r) (suc j)) 63 ≡ false → (suc j ≡ i + 1) ⊎ (suc j < i + 1)
          → (t : ℕ) × (move A p a ≡ some t)
      moves-at j p a w b z (inl e) =
          let d : j ≡ i = omega arith in
          let v : Reach A x i p = subst (λ (m : ℕ). Reach A x m p) d w in
          let y : bit (word x (i + 1)) a ≡ true = ap (λ (m : ℕ). bit (word x m) a) (sym e) ∙ b in
          mark-move (move A p a) (λ m. false≢true
          (sym z ∙ ap (λ (n : ℕ). bit (word (set sets (i + 1) r) n) 63) e ∙ ap (λ (u : ℕ). bit u 63) here
          ∙ s.complete 63 a (fit.low j a b) (y, (p, reach-known i p v, f.complete i p (omega arith) v, m))))
      moves-at j p a w b z (inr h) = f.moves j p a h w b (ap (λ (u : ℕ). bit u 63) (sym (other (suc j) h)) ∙ z)

  -- the states of a set that is marked
  pub forward-states : (n i from : ℕ) (sets : List ℕ) → i < n → Forward A x n sets → LowBits 32 (word sets i) from
      → ((p : ℕ) → bit from p ≡ true → Reach A x i p) × ((p : ℕ) → Reach A x i p → bit from p ≡ true)
  forward-states n i from sets h f low = (
    λ p b. let t = low.sound p b in let l = t.0 in f.sound i p h (omega arith) t.1,
    λ p c. let l = reach-known i p c in let m = fit.few in low.complete p (omega arith) (f.complete i p h c),
  )
