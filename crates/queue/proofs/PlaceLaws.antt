-- Where the variables of a step stand in the index, and the words of the index there. Assumes nothing.
use mathlib.Core.Path.{◌≡◌, refl, sym, ap, subst, ◌∙◌}
use mathlib.Core.Bool.{Bool, true, false, not, ◌&&◌, ◌||◌, false≢true}
use mathlib.Core.List.Memᴰ
use mathlib.Core.List.{List, [], ◌∷◌, ◌++◌, map}
use Prim.Native.Nat.{ℕ, ◌+◌, ◌-◌, ◌*◌, ◌/◌, ◌%◌, ◌^◌, ◌≤◌, ◌<◌}
use native.Mathlib.Omega.{arith}
use lib.Bits.{bit_and, bit_or}
use lib.Dec.{eqb}
use lib.ListN.{length, get_or}
use lib.Pow.{pow-lt}
use borrow.Author.Tests.{eqb-true, eq-eqb, ne_eqb}
use Rattle.model.specs.Words.{bit, bits, word, union}
use Rattle.model.specs.Constraints.{Problem, Constraint, always, variables}
use Rattle.model.specs.Solutions.{WellFormed}
use Rattle.model.specs.Operations.{step_at, step_count}
use Rattle.model.specs.StepIndex.{index_of}
use Rattle.laws.specs.Inclusion.{In}
use Rattle.laws.specs.Line.{waits}
use Rattle.laws.proofs.WordLaws.{bit-or, bool_ext, pow-bit, and_yes, zero_bits}
use Rattle.laws.proofs.ShiftLaws.{without-bit}
use Rattle.laws.proofs.StepNumberLaws.{step_in}
use Rattle.laws.proofs.StepIndexLaws.{step_at-constraint, step_at_trimming, index-length}
use Rattle.shortcuts.proofs.WaitLaws.{ranged-step}
use Rattle.layout.specs.declared.Parts.{Parts}
use Rattle.records.specs.declared.Record.{Record}
use Rattle.records.specs.Records.{constraint_of}
use Rattle.format.specs.Accepting.{problem_in, Usable}
use Rattle.format.proofs.ContentLaws.{usable-counts}
use Rattle.index.specs.Index.{position}
use Rattle.index.specs.declared.positions.Positions.{Positions}
use Rattle.index.specs.Standing.{listed, Standing, Lent}
use Rattle.index.proofs.StandingLaws.{position-below}
use Rattle.queue.specs.declared.Steps.{Steps}
use Rattle.queue.specs.Ring.{Without, After, Places, Joins}
use Rattle.queue.proofs.JoiningLaws.{joins_bit, joining-words}

-- ---- how many steps a file has

module _ (file : List ℕ) (p : Parts) (u : Usable file p) where
  pub usable-steps : step_count (problem_in file p) ≡ p.c + p.s
  usable-steps = let n = usable-counts file p u in omega (arith, n.constraints, n.strings)

  pub usable-few : step_count (problem_in file p) ≤ 80
  usable-few = omega (arith, usable-steps, u.fits.strings-most, u.fits.constraints-most)

-- ---- where the variables of step j stand

module _ (file : List ℕ) (p : Parts) (u : Usable file p) (j : ℕ) where
  abbrev P : Problem
  P = problem_in file p

  pub places_trimming : p.c ≤ j → {m : Positions} → m.at ≡ (j - p.c) ∷ 0 ∷ 0 ∷ [] → m.count ≡ 1 → Places P j m
  unfolding position variables
  places_trimming h {m} at count =
      let n = (usable-counts file p u).constraints in
      let k : j ≡ length P.constraints + (j - p.c) = omega arith in
      let e : step_at P j ≡ always (j - p.c) = ap (step_at P) k ∙ step_at_trimming P (j - p.c) in
      let l : listed m ≡ (j - p.c) ∷ [] = rw (at, count) refl in
      record { are = l ∙ ap (λ (c : Constraint). map (position P.strings) (variables c)) (sym e) }

  pub places-constraint : j < p.c → (r : Record) → constraint_of r ≡ get_or P.constraints j (always 0) → (m : Positions) → Standing p.s r m → Places P j m
  places-constraint h r there m s =
      let n = usable-counts file p u in
      let is : constraint_of r ≡ step_at P j = there ∙ sym (step_at-constraint P j (omega (arith, n.constraints))) in
      record {
        are = s.are ∙ ap (λ (k : ℕ). map (position k) (variables (constraint_of r))) (sym n.strings)
            ∙ ap (λ (c : Constraint). map (position P.strings) (variables c)) is;
      }

-- ---- the words of the index there

module _ (P : Problem) (wf : WellFormed P) (few : step_count P ≤ 80) (I : List ℕ) (is : I ≡ index_of P) (j : ℕ) (less : j < step_count P) (m : Positions)
    (at : Places P j m) where
  pub places-lent : Lent m (length I)
  places-lent = record {
    inside = λ i k.
        let v = Memᴰ.of_map (position P.strings) (variables (step_at P j)) (subst (In i) at.are k) in
        let r = ranged-step P wf (step_at P j) (step_in P j less) v.0 v.1 in
        let h : i < P.strings + P.numbers = subst (λ (n : ℕ). n < P.strings + P.numbers) v.2 (position-below P v.0 r) in
        omega (arith, ap length is, index-length P);
  }

  -- those of the steps that share a variable, without those that wait
  pub joins_some : (w : Steps) (low high : ℕ) → w.low < 2 ^ 64 → w.high < 2 ^ 64
      → low ≡ union (map (λ i. word I (2 * i + 0)) (listed m)) → high ≡ union (map (λ i. word I (2 * i + 1)) (listed m)) → (struck : Bool) → struck ≡ true
      → Joins P w j struck (record { low = bit_and low (2 ^ 64 - 1 - w.low); high = bit_and high (2 ^ 64 - 1 - w.high) })
  joins_some w low high fl fh el eh struck so = record {
    none = λ not_so. absurd (false≢true (sym not_so ∙ so));
    some = λ y js k. sym (joining-words P j js _ _ (omega arith)
        (joins_bit P wf j less m at 0 (omega arith) low (el ∙ ap (λ (W : List ℕ). union (map (λ i. word W (2 * i + 0)) (listed m))) is) js w.low _ fl refl
        (λ b l. let e : b ≡ 64 * 0 + b = omega arith in k.first b l ∙ ap (waits (j ∷ js)) e))
        (joins_bit P wf j less m at 1 (omega arith) high (eh ∙ ap (λ (W : List ℕ). union (map (λ i. word W (2 * i + 1)) (listed m))) is) js w.high _ fh refl
        (λ b l. k.second b l)));
  }

pub joins_none : (P : Problem) (w : Steps) (j : ℕ) (struck : Bool) → struck ≡ false → Joins P w j struck (record { low = 0; high = 0 })
joins_none P w j struck not_so = record {
  none = λ y. ap (λ (l : List ℕ). l ++ map (λ b. 64 + b) (bits 0)) zero_bits ∙ ap (map (λ b. 64 + b)) zero_bits;
  some = λ so. absurd (false≢true (sym not_so ∙ so));
}

-- ---- a word without step j

same_step : (half j b : ℕ) → b < 64 → j / 64 ≡ half → eqb (j % 64) b ≡ eqb (64 * half + b) j
same_step half j b l e = bool_ext (eqb (j % 64) b) (eqb (64 * half + b) j)
    (λ q. let k = eqb-true (j % 64) b q in eq-eqb (64 * half + b) j (omega arith))
    (λ q. let k = eqb-true (64 * half + b) j q in eq-eqb (j % 64) b (omega arith))

pub without-here : (w half j s : ℕ) → s ≡ 2 ^ (j % 64) → j / 64 ≡ half → Without w half j (bit_and w (2 ^ 64 - 1 - s))
without-here w half j s e h = record {
  left = λ b l.
      let r : j % 64 < 64 = omega arith in
      let fits : s < 2 ^ 64 = subst (λ (x : ℕ). x < 2 ^ 64) (sym e) (pow-lt r) in
      without-bit w s b fits l
      ∙ ap (λ (t : Bool). bit w b && not t) (ap (λ (x : ℕ). bit x b) e ∙ pow-bit (j % 64) b ∙ same_step half j b l h);
}

pub without_other : (w half j : ℕ) → (j / 64 ≡ half → ⊥) → Without w half j w
without_other w half j n = record {
  left = λ b l.
      let d : eqb (64 * half + b) j ≡ false = ne_eqb (64 * half + b) j (λ e. n (omega arith)) in
      sym (ap (λ (t : Bool). bit w b && not t) d ∙ and_yes (bit w b));
}

-- both words without step j, and with others
pub left-and-joined : {w more : Steps} {j v u : ℕ} → Without w.low 0 j v → Without w.high 1 j u → After w j more (record { low = bit_or v more.low; high = bit_or u more.high })
left-and-joined {w} {more} {j} {v} {u} l h = record {
  low = λ b s. bit-or v more.low b ∙ ap (λ (t : Bool). t || bit more.low b) (l.left b s);
  high = λ b s. bit-or u more.high b ∙ ap (λ (t : Bool). t || bit more.high b) (h.left b s);
}
