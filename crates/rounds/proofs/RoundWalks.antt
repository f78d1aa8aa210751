-- Laws of the rounds as code takes them: a walk over the strings and one over the constraints are a round, and a round that strikes something is followed by
-- the rounds of what it left. Assumes nothing.
use mathlib.Core.Path.{◌≡◌, refl, sym, ap, subst, ◌∙◌}
use mathlib.Core.Logic.{⊎_elim}
use mathlib.Core.Bool.{true}
use mathlib.Core.List.{List, map}
use Prim.Native.Nat.{ℕ, ◌+◌, ◌*◌, ◌≤◌, ◌<◌}
use native.Mathlib.Omega.{arith}
use lib.ListN.{length, get_or, length-map}
use Rattle.model.specs.Lists.{from, upto}
use Rattle.model.specs.Words.{size}
use Rattle.model.specs.Domains.{row}
use Rattle.model.specs.Constraints.{Problem, Constraint, always, width}
use Rattle.model.specs.Support.{narrowed, struck}
use Rattle.model.specs.Rounds.{steps, run, round, Settled, after, settling, settled}
use Rattle.laws.specs.Inclusion.{Below}
use Rattle.laws.specs.Lent.{lendable}
use Rattle.laws.proofs.ListLaws.{from-length, from-get_or}
use Rattle.laws.proofs.TableLaws.{below-of-eq, below_trans, size-most, struck-size}
use Rattle.laws.proofs.RoundLaws.{run-below, run-append, after-cases, settling-step}
use Rattle.laws.proofs.CallLaws.{lendable-length, lendable-below}
use Rattle.format.specs.declared.problem.Problem as accepted
use Rattle.format.specs.Problems.{the_problem}
use Rattle.format.proofs.ContentLaws.{Counts, usable-counts}
use Rattle.rows.specs.Rows.{trimmed, stored}
use Rattle.inplace.proofs.Tidied.{trim-placed}
use Rattle.list.proofs.StepWalkLaws.{Walked, walk_step, walk-lent, walk_ran}

module _ (P : Problem) where
  -- the steps of the first walk: trimming each string
  abbrev pub trims : List Constraint
  trims = map always (upto P.strings)

  trims-length : length trims ≡ P.strings
  unfolding upto
  trims-length = length-map (from 0 P.strings) always ∙ from-length 0 P.strings

  trims-at : (x : ℕ) → x < P.strings → always x ≡ get_or trims x (always 0)
  unfolding upto
  trims-at x l = let e : x ≡ 0 + x = omega arith in ap always e ∙ sym (from-get_or always 0 P.strings x (always 0) l)

  -- both walks to their ends are a round
  walks-round : (T : List ℕ) (x : ℕ) (U W : List ℕ) → x ≡ P.strings → Walked P trims T x U → W ≡ run P P.constraints U → W ≡ round P T
  unfolding round steps
  walks-round T x U W e v w = w ∙ ap (run P P.constraints) (walk_ran P trims T x U (omega (arith, trims-length)) v) ∙ sym (run-append P trims P.constraints T)

  -- ---- round after round

  -- round n of settling T begins with U
  pub record Begins (T U : List ℕ) (n : ℕ) : Type 0 where
    pub lent : lendable P U ≡ true
    pub few : n + size U ≤ 1 + 64 * width P
    pub rounds : (settling P T).rounds + 1 ≡ n + (settling P U).rounds
    pub table : settled P T ≡ settled P U

  pub begins-first : (T : List ℕ) → lendable P T ≡ true → Begins T T 1
  begins-first T l = record {
    lent = l;
    few = omega (arith, size-most T, lendable-length P T l);
    rounds = omega arith;
    table = refl;
  }

  module _ (T U W : List ℕ) (n : ℕ) (is : W ≡ round P U) (b : Begins T U n) where
    below : Below W U
    unfolding round
    below = below_trans (below-of-eq is) (run-below P (steps P) U)

    fewer : struck U W + size W ≡ size U
    fewer = struck-size U W below

    from-here : settling P U ≡ after (struck U W) W (settling P W)
    from-here = settling-step P U ∙ ap (λ (Z : List ℕ). after (struck U Z) Z (settling P Z)) (sym is)

    -- a round that struck something is followed by another
    begins-next : (size W ≡ size U → ⊥) → Begins T W (n + 1)
    begins-next l = ⊎_elim
        (λ z. absurd (l (omega (arith, z.0, fewer))))
        (λ z. record {
          lent = lendable-below P W U below b.lent;
          few = omega (arith, b.few, fewer, z.0);
          rounds = omega (arith, b.rounds, ap (λ (r : Settled). r.rounds) from-here, z.1);
          table = b.table ∙ ap (λ (r : Settled). r.table) from-here ∙ z.2;
        })
        (after-cases P (struck U W) W (settling P W))

    -- one that struck nothing is the last
    ends : size W ≡ size U → (n ≡ (settling P T).rounds) × (W ≡ settled P T)
    ends e = ⊎_elim
        (λ z. (omega (arith, b.rounds, ap (λ (r : Settled). r.rounds) from-here, z.1), sym (b.table ∙ ap (λ (r : Settled). r.table) from-here ∙ z.2)))
        (λ z. absurd (omega (arith, z.0, fewer, e)))
        (after-cases P (struck U W) W (settling P W))

-- ---- the turns of both walks, in round n

module _ (p : accepted.Problem) where
  abbrev P : Problem
  P = the_problem p

  h : Counts p.file.now p.parts
  h = usable-counts p.file.now p.parts p.usable

  pub wide : width P ≤ 1040
  wide = h.most-words

  -- a table that may be lent is short
  pub lent-short : (T : List ℕ) → lendable P T ≡ true → length T ≤ 1040
  lent-short T l = omega (arith, lendable-length P T l, wide)

  module _ {T U : List ℕ} {n : ℕ} (b : Begins P T U n) {x : ℕ} {X : List ℕ} (v : Walked P (trims P) U x X) where
    pub trim-lent : lendable P X ≡ true
    trim-lent = walk-lent P (trims P) U x X b.lent v

    trim-length : length X ≡ width P
    trim-length = lendable-length P X trim-lent

    pub trim-room : x < p.parts.s → 64 * x + 64 ≤ length X
    trim-room l = omega (arith, trim-length, h.strings)

    pub trim-next : {W : List ℕ} → x < p.parts.s → W ≡ stored X x (trimmed (row X x)) → Walked P (trims P) U (x + 1) W
    trim-next {W} l e =
        let q : x < P.strings = omega (arith, h.strings) in
        walk_step P (trims P) U x X W (omega (arith, trims-length P))
        (subst (λ (d : Constraint). W ≡ narrowed P d X) (trims-at P x q) (e ∙ trim-placed P x q X trim-length)) v

    module _ {W : List ℕ} (r : W ≡ run P P.constraints X) where
      pub round-lent : lendable P W ≡ true
      round-lent = lendable-below P W X (below_trans (below-of-eq r) (run-below P P.constraints X)) trim-lent

      module _ (ex : x ≡ p.parts.s) where
        is : W ≡ round P U
        is = walks-round P U x X W (ex ∙ sym h.strings) v r

        -- a round that struck something leaves fewer bits, and another follows
        pub round-less : (size W ≡ size U → ⊥) → size W < size U
        round-less l = let s = fewer P T U W n is b in omega (arith, l)

        pub round-next : (size W ≡ size U → ⊥) → Begins P T W (n + 1)
        round-next l = begins-next P T U W n is b l

        -- one that struck nothing is the last
        pub round-last : size W ≡ size U → (n ≡ (settling P T).rounds) × (W ≡ settled P T)
        round-last e = ends P T U W n is b e
