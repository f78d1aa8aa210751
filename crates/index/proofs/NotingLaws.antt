-- The index as it is filled, record by record, from a file's constraint bytes. Assumes nothing.
use mathlib.Core.Path.{◌≡◌, sym, ap, subst, ◌∙◌}
use mathlib.Core.Logic.{⊎_elim}
use mathlib.Core.Bool.{true, false≢true}
use mathlib.Core.List.Memᴰ
use mathlib.Core.List.{List}
use mathlib.Core.Option.{some}
use Prim.Native.Nat.{ℕ, ◌+◌, ◌-◌, ◌*◌, ◌^◌, ◌≤◌, ◌<◌}
use native.Mathlib.Nat.{eq-or-lt_of_le}
use native.Mathlib.Omega.{arith}
use lib.ListN.{length, get_or, take, drop, replicate}
use Rattle.model.specs.Words.{bit, word}
use Rattle.model.specs.Domains.{Variable, str, num}
use Rattle.model.specs.Constraints.{Problem, Constraint, always, variables}
use Rattle.model.specs.Solutions.{InRange}
use Rattle.model.specs.Layout.{part}
use Rattle.model.specs.Reading.{decode}
use Rattle.laws.specs.Inclusion.{In}
use Rattle.laws.proofs.ListLaws.{get_or-zeros}
use Rattle.laws.proofs.WordLaws.{zero_bit, pow_self, pow-only}
use Rattle.laws.proofs.ReadingLaws.{decode_range}
use Rattle.records.specs.declared.Record.{Record}
use Rattle.records.specs.Records.{constraint_of}
use Rattle.format.specs.declared.problem.Problem as accepted
use Rattle.format.specs.Problems.{the_problem}
use Rattle.format.proofs.ContentLaws.{Counts, usable-counts, usable-record}
use Rattle.index.specs.Index.{position, Named, Index}
use Rattle.index.specs.declared.positions.Positions.{Positions}
use Rattle.index.specs.Joining.{positions, Fits, Joined}
use Rattle.index.specs.Standing.{listed, Standing}
use Rattle.index.proofs.KindLaws.{range_fits, standing-inside}

-- nothing is noted yet
pub noting_first : (P : Problem) → Named P 0 (replicate 32 0)
noting_first P = record {
  names = λ j h. absurd (omega arith);
  only = λ j v h e. no-bit (position P.strings v) j e;
  inside = λ i j e. no-bit i j e;
}
  where
    no-bit : {A : Type 0} (i j : ℕ) → bit (word (replicate 32 0) i) j ≡ true → A
    no-bit i j e = absurd (false≢true (sym (zero_bit j) ∙ ap (λ (w : ℕ). bit w j) (sym (get_or-zeros 32 i)) ∙ e))

-- two variables of a problem do not stand at one place
position_injective : (P : Problem) (v w : Variable) → InRange P v → InRange P w → position P.strings v ≡ position P.strings w → v ≡ w
unfolding position
position_injective P (str x) (str y) h k e = ap str e
position_injective P (str x) (num m) h k e = absurd (omega arith)
position_injective P (num n) (str y) h k e = absurd (omega arith)
position_injective P (num n) (num m) h k e = let q : n ≡ m = omega arith in ap num q

-- constraint j is noted with bit j
module _ (P : Problem) (j : ℕ) (r : Record) (e : constraint_of r ≡ get_or P.constraints j (always 0))
    (rg : (v : Variable) → In v (variables (constraint_of r)) → InRange P v) where
  -- a variable at whose place it is noted is one that it names
  noting_only : (i : ℕ) (v : Variable) → InRange P v → In (position P.strings v) (positions P.strings r) → i ≡ j
      → In v (variables (get_or P.constraints i (always 0)))
  noting_only i v h m q =
      let u = Memᴰ.of_map (position P.strings) (variables (constraint_of r)) m in
      let f : u.0 ≡ v = position_injective P u.0 v (rg u.0 u.1) h u.2 in
      let g : constraint_of r ≡ get_or P.constraints i (always 0) = e ∙ ap (λ (x : ℕ). get_or P.constraints x (always 0)) (sym q) in
      subst (λ (c : Constraint). In v (variables c)) g (subst (λ (w : Variable). In w (variables (constraint_of r))) f u.1)

  pub noting_named : (ix jx : List ℕ) → Named P j ix → Joined (positions P.strings r) (2 ^ j) ix jx → Named P (j + 1) jx
  noting_named ix jx n m = record {
    names = λ i h v k. ⊎_elim
        (λ (q : i ≡ j).
        let g : get_or P.constraints i (always 0) ≡ constraint_of r = ap (λ (x : ℕ). get_or P.constraints x (always 0)) q ∙ sym e in
        let l : In v (variables (constraint_of r)) = subst (λ (c : Constraint). In v (variables c)) g k in
        m.joined (position P.strings v) (Memᴰ.map (position P.strings) l) i (ap (bit (2 ^ j)) q ∙ pow_self j))
        (λ (l : i < j). m.kept (position P.strings v) i (n.names i l v k))
        (eq-or-lt_of_le (omega arith));
    only = λ i v h b. ⊎_elim
        (λ old. n.only i v h old)
        (λ new. noting_only i v h new.0 (pow-only j i new.1))
        (m.only (position P.strings v) i b);
    inside = λ i k b. ⊎_elim
        (λ old. let l = n.inside i k old in omega arith)
        (λ new. let q = pow-only j k new.1 in omega arith)
        (m.only i k b);
  }

-- ---- the constraints of a file

module _ (p : accepted.Problem) where
  abbrev P : Problem
  P = the_problem p

  counts : Counts p.file.now p.parts
  counts = usable-counts p.file.now p.parts p.usable

  module _ (j : ℕ) (less : j < p.parts.c) (r : Record) (e : constraint_of r ≡ get_or P.constraints j (always 0)) where
    ranged : (v : Variable) → In v (variables (constraint_of r)) → InRange P v
    ranged =
        let q : decode P.strings P.numbers p.parts.d (part (4 * j) 4 (take (p.parts.automata_at - p.parts.constraints_at) (drop p.parts.constraints_at p.file.now))) ≡ some (constraint_of r) =
        rw (counts.strings, counts.numbers, e) (usable-record p.file.now p.parts p.usable j less) in
        decode_range P p.parts.d _ (constraint_of r) q

    module _ (m : Positions) (at : Standing p.parts.s r m) where
      pub noting_inside : (i : ℕ) → In i (listed m) → i < 32
      noting_inside =
          let s : P.strings ≤ 16 = omega (arith, counts.strings, p.usable.fits.strings-most) in
          let t : P.numbers ≤ 16 = omega (arith, counts.numbers, p.usable.fits.numbers-most) in
          standing-inside p.parts.s r m (subst (λ (k : ℕ). Fits k r) counts.strings (range_fits P r s t ranged)) at

      pub noting_next : (b : ℕ) (ix jx : List ℕ) → b ≡ 2 ^ j → Named P j ix → Joined (listed m) b ix jx → Named P (j + 1) jx
      noting_next b ix jx w n h =
          let is : listed m ≡ positions P.strings r = at.are ∙ ap (λ (k : ℕ). positions k r) (sym counts.strings) in
          noting_named P j r e ranged ix jx n (subst (λ (k : ℕ). Joined (positions P.strings r) k ix jx) w (subst (λ (is : List ℕ). Joined is b ix jx) is h))

  pub noting_last : (j : ℕ) (ix : List ℕ) → j ≤ p.parts.c → p.parts.c ≤ j → Named P j ix → Index P ix
  noting_last j ix l h n =
      let e : j ≡ length P.constraints = omega (arith, counts.constraints) in
      subst (λ (k : ℕ). Named P k ix) e n
