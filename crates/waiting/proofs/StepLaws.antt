-- The step of one constraint of a file: its record is the file's, and each way out of the step says what `Turned` asks. Assumes nothing.
use Rattle.std.specs.Prelude.{Some, None}
use mathlib.Core.Path.{◌≡◌, refl, sym, ap, subst, ◌∙◌}
use mathlib.Core.Logic.{◌≢◌, ◌⊎◌, inl, inr}
use mathlib.Core.Bool.{Bool, true, false, not, false≢true}
use mathlib.Core.List.Memᴰ
use mathlib.Core.List.{List, [], ◌∷◌, map}
use Prim.Native.Nat.{ℕ, zero, suc, ◌+◌, ◌-◌, ◌*◌, ◌^◌, ◌≤◌, ◌<◌}
use native.Mathlib.Omega.{arith}
use lib.Bits.{bit_and}
use lib.Pow.{pow-lt}
use Rattle.std.specs.Int.Bits.{and_zero_l}
use Rattle.laws.proofs.WordLaws.{pow-bit}
use lib.Dec.{eqb}
use lib.ListN.{length, get_or}
use borrow.Author.Tests.{eqb-true, eqb-false, ne_eqb}
use Rattle.model.specs.Words.{bit, word, union, Words, size}
use Rattle.model.specs.Domains.{Variable, str, row}
use Rattle.model.specs.Constraints.{Problem, Constraint, always, variables}
use Rattle.model.specs.Solutions.{WellFormed}
use Rattle.model.specs.Support.{touches, narrowed, struck}
use Rattle.model.specs.Rounds.{every_value}
use Rattle.laws.specs.Inclusion.{In, Below}
use Rattle.laws.specs.Lent.{lendable}
use Rattle.laws.proofs.ListLaws.{get_or_in, true_and, never_true}
use Rattle.laws.proofs.ShiftLaws.{of-and-bit, without-bit}
use Rattle.laws.proofs.TableLaws.{struck-none, struck-size}
use Rattle.laws.proofs.SupportLaws.{touched, touched-text, narrowed-below}
use Rattle.laws.proofs.DomainLaws.{owner-text}
use Rattle.laws.proofs.CallLaws.{lendable-length}
use Rattle.shortcuts.specs.Waiting.{Unchanged, Apart}
use Rattle.shortcuts.proofs.LocalLaws.{apart-unchanged}
use Rattle.shortcuts.proofs.RunningLaws.{dead-length}
use Rattle.records.specs.declared.Record.{Record}
use Rattle.records.specs.declared.Record.TheVariants.{Eq, Neq, Rev, Cat, Sub, Len, Regular}
use Rattle.records.specs.Records.{constraint_of}
use Rattle.format.specs.Problems.{the_problem}
use Rattle.format.proofs.ContentLaws.{Counts, usable-counts, usable-sound}
use Rattle.inplace.specs.declared.Changed.{Changed}
use Rattle.inplace.specs.InTable.{Tidy}
use Rattle.inplace.proofs.Tables.{same_row}
use Rattle.steps.specs.Step.{TidyIn, Narrows, KindsIn, cleared}
use Rattle.steps.proofs.ClearLaws.{cleared-touched}
use Rattle.index.specs.Index.{position}
use Rattle.index.specs.Joining.{Fits}
use Rattle.index.proofs.KindLaws.{formed-fits}
use Rattle.index.specs.Waking.{moved}
use Rattle.index.proofs.WakingLaws.{waking-inside, waking-apart, waking-none, waking-struck}
use Rattle.waiting.specs.declared.prepared.Prepared.{Prepared}
use Rattle.waiting.specs.Turns.{TidyRows, Enough, Turned}

-- every kind names a string
names-string : (r : Record) → (x : ℕ) × In (str x) (variables (constraint_of r))
unfolding constraint_of variables
names-string (Eq x y) = (x, Memᴰ.head refl)
names-string (Neq x y) = (x, Memᴰ.head refl)
names-string (Rev x y) = (x, Memᴰ.head refl)
names-string (Cat x y z) = (x, Memᴰ.head refl)
names-string (Sub x y n) = (x, Memᴰ.head refl)
names-string (Len x n) = (x, Memᴰ.head refl)
names-string (Regular x d) = (x, Memᴰ.head refl)

-- ---- what the step of constraint j asks, which is the record r, and the ways out of it, on a table T of tidy rows

module _ (p : Prepared) (T : List ℕ) (bd : Words T) (j : ℕ) (pre : (lendable (the_problem p.problem) T ≡ true) × (j < p.problem.parts.c) × TidyRows (the_problem p.problem) T)
    (r : Record) (is : constraint_of r ≡ get_or (the_problem p.problem).constraints j (always 0)) where
  abbrev P : Problem
  P = the_problem p.problem

  abbrev ix : List ℕ
  ix = p.index.now

  counts : Counts p.problem.file.now p.problem.parts
  counts = usable-counts p.problem.file.now p.problem.parts p.problem.usable

  formed : WellFormed P
  formed = (usable-sound p.problem.file.now p.problem.parts p.problem.usable p.problem.bytes).well_formed

  less : j < length P.constraints
  less = omega (arith, pre.1, counts.constraints)

  there : In (constraint_of r) P.constraints
  there = subst (λ (c : Constraint). In c P.constraints) (sym is) (get_or_in P.constraints j (always 0) less)

  -- a string that it names
  string-there : {x : ℕ} → In (str x) (variables (constraint_of r)) → x < P.strings
  string-there {x} names = formed (constraint_of r) there (str x) names

  pub narrow_asks : (lendable P T ≡ true) × KindsIn p.problem p.kinds.now × In (constraint_of r) P.constraints × TidyIn (constraint_of r) T
  narrow_asks = (pre.0, p.kinds_in, there, λ x m. pre.2 x (string-there m))

  pub waking_asks : (p.problem.parts.s ≤ 16) × Fits p.problem.parts.s r
  waking_asks =
      let f = p.problem.usable.fits in
      (f.strings-most, formed-fits P p.problem.parts.s r formed counts.strings f.strings-most (omega (arith, counts.numbers, f.numbers-most)) there)

  -- it made U of T, and no choice is left
  module _ {U : List ℕ} (s : Narrows P (constraint_of r) T U None) where
    pub turned-dead : Turned P j T U None
    turned-dead = record {
      same_length = s.size;
      leads = ap (λ (c : Constraint). every_value P (narrowed P c T)) (sym is) ∙ dead-length P (narrowed P (constraint_of r) T) x.0 h z;
    }
      where
        x : (x : ℕ) × In (str x) (variables (constraint_of r))
        x = names-string r

        h : x.0 < P.strings
        h = string-there x.1

        z : word (narrowed P (constraint_of r) T) (64 * x.0) ≡ 0
        z =
            let e : 64 * x.0 + 0 ≡ 64 * x.0 = omega arith in
            let l = s.size in
            let k = h in
            ap (λ (W : List ℕ). word W (64 * x.0)) (sym (s.none refl)) ∙ ap (word (cleared P (constraint_of r) U)) (sym e)
            ∙ cleared-touched P (constraint_of r) U (64 * x.0 + 0) (omega (arith, lendable-length P T pre.0)) (touched-text P (constraint_of r) x.0 0 h (omega arith) x.1)

  -- n says what changed, and w are the constraints that name a variable that did
  module _ {U : List ℕ} {n : Changed} (s : Narrows P (constraint_of r) T U (Some n)) {w : ℕ}
      (wakes : w ≡ union (map (λ v. word ix (position p.problem.parts.s v)) (moved (variables (constraint_of r)) (n.x ∷ n.y ∷ n.z ∷ [])))) {b : ℕ} (one : b ≡ 2 ^ j) where
    in_problem : w ≡ union (map (λ v. word ix (position P.strings v)) (moved (variables (constraint_of r)) (n.x ∷ n.y ∷ n.z ∷ [])))
    in_problem =
        subst (λ (k : ℕ). w ≡ union (map (λ v. word ix (position k v)) (moved (variables (constraint_of r)) (n.x ∷ n.y ∷ n.z ∷ [])))) (sym counts.strings) wakes

    table : U ≡ narrowed P (get_or P.constraints j (always 0)) T
    table = s.table refl ∙ ap (λ (c : Constraint). narrowed P c T) is

    -- those but itself
    abbrev others : ℕ
    others = bit_and w (2 ^ 64 - 1 - b)

    few : length P.constraints ≤ 64
    few = omega (arith, counts.constraints, p.problem.usable.fits.constraints-most)

    -- one that does not wait is not among them
    missed : (d : ℕ) → d < length P.constraints → d ≢ j → bit others d ≡ false → bit w d ≡ false
    missed d l ne q =
        let j64 : j < 64 = omega (arith, less, few) in
        let h : b < 2 ^ 64 = subst (λ (x : ℕ). x < 2 ^ 64) (sym one) (pow-lt j64) in
        never_true (bit w d) (λ x. false≢true (sym q ∙ without-bit w b d h (omega (arith, l, few)) ∙ true_and x (ap not (ap (λ (y : ℕ). bit y d) one ∙ pow-bit j d ∙ ne_eqb j d (λ e. ne (sym e))))))

    enough : Enough P j T U others
    enough = record {
      apart = λ d l ne q. subst (Apart P (get_or P.constraints d (always 0)) T) (sym (s.table refl))
          (apart-unchanged P (constraint_of r) (get_or P.constraints d (always 0)) T (λ v m k.
          subst (λ (Y : List ℕ). Unchanged P T Y v) (s.table refl)
          (waking-apart P ix p.indexed (constraint_of r) n w in_problem T U s d l (missed d l ne q) v m k)));
      inside = λ d q. waking-inside P ix p.indexed (constraint_of r) n w in_problem d (of-and-bit w (2 ^ 64 - 1 - b) d q).0;
    }

    below : Below U T
    below = subst (λ (Y : List ℕ). Below Y T) (sym (s.table refl)) (narrowed-below P (constraint_of r) T)

    struck-some : w ≢ 0 → size U < size T
    struck-some z = go (struck T U) refl
      where
        go : (k : ℕ) → struck T U ≡ k → size U < size T
        go zero q = absurd (waking-struck P ix p.indexed (constraint_of r) n w in_problem T U s z (struck-none T U below bd q))
        go (suc k) q = omega (arith, q, struck-size T U below)

    -- where it wakes none it struck nothing
    struck-any : ((U ≡ T) × (others ≡ 0)) ⊎ (size U < size T)
    struck-any = go (eqb w 0) refl
      where
        go : (t : Bool) → eqb w 0 ≡ t → ((U ≡ T) × (others ≡ 0)) ⊎ (size U < size T)
        go true q =
            let z : w ≡ 0 = eqb-true w 0 q in
            inl (waking-none P ix p.indexed (constraint_of r) n w in_problem T U s j less is z, ap (λ (x : ℕ). bit_and x (2 ^ 64 - 1 - b)) z ∙ and_zero_l (2 ^ 64 - 1 - b))
        go false q = inr (struck-some (eqb-false w 0 q))

    -- rows that it does not name are as they were
    tidy-rows : TidyRows P U
    tidy-rows x h = go (touches P (constraint_of r) (64 * x + 0)) refl
      where
        go : (k : Bool) → touches P (constraint_of r) (64 * x + 0) ≡ k → Tidy (row U x)
        go true q = s.tidy refl x (subst (λ (v : Variable). In v (variables (constraint_of r))) (owner-text P.strings x 0 h (omega arith)) (touched P (constraint_of r) (64 * x + 0) q))
        go false q = subst Tidy (sym (same_row T x U s.size (omega (arith, lendable-length P T pre.0, h)) (λ i k. s.others (64 * x + i) (untouched i k (touches P (constraint_of r) (64 * x + i)) refl)))) (pre.2 x h)
          where
            untouched : (i : ℕ) → i < 64 → (k : Bool) → touches P (constraint_of r) (64 * x + i) ≡ k → touches P (constraint_of r) (64 * x + i) ≡ false
            untouched i k false e = e
            untouched i k true e = absurd (false≢true (sym q ∙ touched-text P (constraint_of r) x 0 h (omega arith)
                (subst (λ (v : Variable). In v (variables (constraint_of r))) (owner-text P.strings x i h k) (touched P (constraint_of r) (64 * x + i) e))))

    pub turned-woken : Turned P j T U (Some others)
    turned-woken = record { same_length = s.size; leads = record { table = table; struck = struck-any; tidy = tidy-rows; enough = enough } }
