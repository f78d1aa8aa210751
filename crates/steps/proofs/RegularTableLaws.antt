-- The step of Regular on a lent table, with an automaton that lies in the file. Assumes nothing.
use Rattle.std.specs.Prelude.{Option, nat_le}
use mathlib.Core.Path.{◌≡◌, sym, ap, subst, ◌∙◌}
use mathlib.Core.Logic.{⊎_elim, inr}
use mathlib.Core.Bool.{true, false}
use borrow.Author.Tests.{le-leb, lt-leb}
use mathlib.Core.List.{List, [], ◌∷◌}
use Prim.Native.Nat.{ℕ, ◌+◌, ◌*◌, ◌≤◌, ◌<◌}
use native.Mathlib.Omega.{arith}
use lib.Dec.{eqb}
use lib.ListN.{length, drop}
use Rattle.model.specs.Domains.{row}
use Rattle.model.specs.Constraints.{Automaton, Problem, regular, width}
use Rattle.model.specs.Reading.{symbols_below}
use Rattle.laws.specs.Lent.{lendable}
use Rattle.laws.proofs.ListLaws.{and_true}
use Rattle.laws.proofs.CallLaws.{lendable-length}
use Rattle.automata.specs.Machine.{state_count, machine, Whole}
use Rattle.automata.specs.Kinds.{AllHeld, AllKinds, Kinds, words_at}
use Rattle.automata.specs.Walk.{Held, Starts}
use Rattle.automata.proofs.KindLaws.{no_words}
use Rattle.regular.specs.PlaceSets.{Alphabet}
use Rattle.regular.proofs.StateLaws.{row-alphabet}
use Rattle.layout.specs.Replied.{parts_of}
use Rattle.format.specs.declared.problem.Problem as accepted
use Rattle.format.specs.Problems.{the_problem}
use Rattle.format.proofs.ContentLaws.{usable-holds, usable-counts}
use Rattle.inplace.specs.declared.Changed.{Changed}
use Rattle.inplace.specs.InTable.{Tidy}
use Rattle.inplace.specs.InPlace.{InPlace}
use Rattle.steps.specs.Step.{Narrows, KindsIn, automata_of}
use Rattle.steps.proofs.KindLaws.{regular-narrows}

module _ (p : accepted.Problem) (ks T : List ℕ) (x d : ℕ)
    (pre : (lendable (the_problem p) T ≡ true) × KindsIn p ks × (x < p.parts.s) × (d < p.parts.d) × Tidy (row T x)) where
  abbrev P : Problem
  P = the_problem p

  pub automaton-named : (p.parts.k ≤ 64) × Held p.parts.k (automata_of p) d
  unfolding parts_of
  automaton-named =
      let h = usable-holds p.file.now p.parts p.usable in
      let l = pre.3 in
      (p.usable.fits.symbols-most, record { count = p.parts.d; automata = P.automata; read = h.machines; named = omega (arith, h.automata) })

  pub string-inside : 64 * x + 64 ≤ length T
  string-inside = let n = (usable-counts p.file.now p.parts p.usable).strings in let l = lendable-length P T pre.0 in let h = pre.2 in omega arith

  low : symbols_below p.parts.k p.parts.s T ≡ true
  unfolding lendable
  low =
      let n = usable-counts p.file.now p.parts p.usable in
      ap (λ (k : ℕ). symbols_below k p.parts.s T) (sym n.symbols) ∙ ap (λ (s : ℕ). symbols_below P.symbols s T) (sym n.strings)
      ∙ (and_true (eqb (length T) (width P)) (symbols_below P.symbols P.strings T) pre.0).1

  module _ (r : ℕ) (at : Starts p.parts.k (automata_of p) d r) where
    abbrev A : Automaton
    A = machine p.parts.k (drop r (automata_of p))

    pub machine-whole : Whole p.parts.k (drop r (automata_of p))
    machine-whole = at.whole

    -- by the kinds of the file's automata, or without
    kinds-there : Kinds A (state_count (drop r (automata_of p))) p.parts.k (words_at ks d)
    kinds-there = ⊎_elim
        (λ z. let e : nat_le (65 * d + 65) (length ks) ≡ false = lt-leb (65 * d + 65) (length ks) (omega arith) in rw e (no_words _ _ _))
        (λ g.
        let s = g.size in
        let m = p.usable.fits.automata-most in
        let l = pre.3 in
        let e : nat_le (65 * d + 65) (length ks) ≡ true = le-leb (65 * d + 65) (length ks) (omega arith) in
        rw e (g.all.each d r pre.3 at)) pre.1

    pub machine-there : (kinds : Option (List ℕ)) → kinds ≡ words_at ks d → Kinds A (state_count (drop r (automata_of p))) p.parts.k kinds
        × (64 * x + 64 ≤ length T) × Alphabet p.parts.k (row T x) × Tidy (row T x)
    machine-there kinds e =
        (subst (Kinds A (state_count (drop r (automata_of p))) p.parts.k) (sym e) kinds-there, string-inside, row-alphabet p.parts.k p.parts.s T x low pre.2, pre.4)

    pub symbols-few : p.parts.k ≤ 64
    symbols-few = p.usable.fits.symbols-most

    pub regular-at-narrows : (U : List ℕ) (n : Option Changed) → InPlace (machine p.parts.k (drop r (automata_of p)) ∷ []) (regular 0 0) (x ∷ []) [] T U n → Narrows P (regular x d) T U n
    unfolding parts_of
    regular-at-narrows U n s =
        let e = (usable-counts p.file.now p.parts p.usable).strings in
        let h = pre.2 in
        let found = at.found p.parts.d P.automata (usable-holds p.file.now p.parts p.usable).machines in
        regular-narrows P x d (machine p.parts.k (drop r (automata_of p))) (sym found) (omega arith) T U (lendable-length P T pre.0) n s

-- what the kinds of a file's automata ask, and that they are these
module _ (p : accepted.Problem) where
  pub kinds_asks : (p.parts.k ≤ 64) × (p.parts.d ≤ 8) × AllHeld p.parts.k p.parts.d (automata_of p)
  unfolding parts_of
  kinds_asks = (p.usable.fits.symbols-most, p.usable.fits.automata-most, record { automata = (the_problem p).automata; read = (usable-holds p.file.now p.parts p.usable).machines })

  pub kinds-are : (ks : List ℕ) → length ks ≡ 520 → AllKinds p.parts.k p.parts.d (automata_of p) ks → KindsIn p ks
  kinds-are ks l a = inr (record { size = l; all = a })
