-- Steps of a file by their numbers: the record of a constraint, and what each function asks. Assumes nothing.
use Rattle.std.specs.Prelude.{Some, None}
use mathlib.Core.Path.{◌≡◌, refl, sym, subst, ◌∙◌}
use mathlib.Core.Bool.{Bool, true, false, ◌||◌}
use mathlib.Core.List.{List, [], ◌∷◌}
use Prim.Native.Nat.{ℕ, ◌+◌, ◌-◌, ◌*◌, ◌≤◌, ◌<◌}
use native.Mathlib.Omega.{arith}
use lib.ListN.{length, get_or}
use borrow.Author.Tests.{lt-ltb, le-ltb}
use Rattle.model.specs.Words.{Words}
use Rattle.model.specs.Domains.{str}
use Rattle.model.specs.Constraints.{Problem, Constraint, always, width}
use Rattle.model.specs.Operations.{step_at}
use Rattle.laws.specs.Inclusion.{In}
use Rattle.laws.specs.Lent.{lendable}
use Rattle.laws.proofs.ListLaws.{get_or_in}
use Rattle.laws.proofs.CallLaws.{lendable-length, lendable-below}
use Rattle.shortcuts.proofs.LocalLaws.{Ranged}
use Rattle.records.specs.declared.Record.{Record}
use Rattle.records.specs.Records.{constraint_of}
use Rattle.format.specs.declared.problem.Problem as accepted
use Rattle.format.specs.Problems.{the_problem}
use Rattle.format.proofs.ContentLaws.{Counts, usable-counts, usable-sound}
use Rattle.inplace.specs.declared.Changed.{Changed}
use Rattle.records.specs.declared.names.Names.{Names}
use Rattle.steps.specs.Step.{TidyIn, Narrows, KindsIn}
use Rattle.steps.specs.Names.{texts, numbers, Naming, Inside, Blanked}
use Rattle.steps.proofs.NamingLaws.{named-text, text-named}
use Rattle.steps.proofs.StepLaws.{step-inside, inside_of}
use Rattle.steps.proofs.TrimmedLaws.{tidy-string}
use Rattle.striking.specs.Strikes.{Strikes, TrimmedIn}
use Rattle.striking.specs.Named.{Known, Trimming, TrimmedOf, Lengths, firsts, Holds}
use Rattle.striking.proofs.TrimmingLaws.{trimming_strikes}
use Rattle.striking.proofs.ChangeLaws.{narrows-none, trimmed-below, trimmed-of, strikes_left, strikes_dead}

-- ---- a record of a file, on a table that may be lent

module _ (p : accepted.Problem) (r : Record) (T : List ℕ) (bd : Words T)
    (pre : (lendable (the_problem p) T ≡ true) × In (constraint_of r) (the_problem p).constraints) (m : Names) (named : Naming p.parts.s (constraint_of r) m) where
  abbrev P : Problem
  P = the_problem p

  counts : Counts p.file.now p.parts
  counts = usable-counts p.file.now p.parts p.usable

  abbrev c : Constraint
  c = constraint_of r

  long : length T ≡ width P
  long = lendable-length P T pre.0

  ranged : Ranged P c
  ranged v i = (usable-sound p.file.now p.parts p.usable p.bytes).well_formed c pre.1 v i

  naming : Naming P.strings c m
  naming = subst (λ (s : ℕ). Naming s c m) (sym counts.strings) named

  pub inside : Inside m T
  inside = step-inside p r T bd pre m named

  pub few_words : length T ≤ 4096
  few_words = omega (arith, long, counts.most-words)

  -- ---- its strings are trimmed: each is tidy, or one has no length

  module _ (trimmed : TrimmedOf P c T) {all : Bool} (l : Lengths (texts m) T all) where
    pub narrow_asks : {ks : List ℕ} → KindsIn p ks → all ≡ true → (lendable P T ≡ true) × KindsIn p ks × In c P.constraints × TidyIn c T
    narrow_asks kinds q = (pre.0, kinds, pre.1, λ x i. tidy-string P T x long bd (ranged (str x) i) (trimmed x i) (l.each q x (text-named naming i)))

    pub no-choice-left : all ≡ false → Narrows P c T T None
    no-choice-left q = let x = l.none q in narrows-none P c T x.0 (named-text naming x.1) x.2

  -- ---- they were trimmed

  module _ {w : ℕ} (known : TrimmedIn P w T) {T₁ : List ℕ} {a : Bool} {v : ℕ} (t : Trimming (texts m) T w T₁ a v) where
    start : Known P w T
    start = record { long = long; words = bd; trimmed = known }

    same_length : length T₁ ≡ length T
    same_length = (trimmed-below ranged naming start t).same_length

    pub inside-trimmed : Inside m T₁
    inside-trimmed = inside_of p r T bd pre m named T₁ same_length

    pub asks_trimmed : {ks : List ℕ} → KindsIn p ks
        → (lendable P T₁ ≡ true) × KindsIn p ks × In c P.constraints × Naming p.parts.s c m × TrimmedOf P c T₁
    asks_trimmed kinds = (lendable-below P T₁ T (trimmed-below ranged naming start t) pre.0, kinds, pre.1, named, trimmed-of ranged naming start t)

    pub left_strikes : {U : List ℕ} {n : Changed} → Narrows P c T₁ U (Some n) → {x y d : Bool} → x ≡ (n.x || n.y) → y ≡ (x || n.z) → d ≡ (a || y) → Strikes P c T U d × TrimmedIn P v U
    left_strikes s e f g = strikes_left ranged naming start t s e f g

    module _ {U : List ℕ} (s : Narrows P c T₁ U None) where
      pub inside-narrowed : Inside m U
      inside-narrowed = inside_of p r T bd pre m named U (s.size ∙ same_length)

      pub dead_strikes : {held : Bool} → Holds (firsts (texts m) (numbers m)) T₁ held → {W : List ℕ} → Blanked (texts m) (numbers m) U W → {d : Bool} → d ≡ (a || held)
          → Strikes P c T W d × TrimmedIn P v W
      dead_strikes h b g = strikes_dead ranged naming start t s h b g

-- ---- by number

module _ (p : accepted.Problem) (T : List ℕ) (j w : ℕ) (bd : Words T)
    (pre : (lendable (the_problem p) T ≡ true) × (j < p.parts.c + p.parts.s) × TrimmedIn (the_problem p) w T) where
  abbrev Q : Problem
  Q = the_problem p

  sizes : Counts p.file.now p.parts
  sizes = usable-counts p.file.now p.parts p.usable

  wide : length T ≡ width Q
  wide = lendable-length Q T pre.0

  -- the trimming of string j - c
  module _ (past : p.parts.c ≤ j) where
    string-there : j - p.parts.c < Q.strings
    string-there = omega (arith, pre.1, sizes.strings)

    pub trim_asks : (64 * (j - p.parts.c) + 64 ≤ length T) × (length T ≤ 4096)
    trim_asks = let h = string-there in let l = wide in let n = sizes.most-words in (omega arith, omega arith)

    trims : step_at Q j ≡ always (j - p.parts.c)
    unfolding step_at
    trims = let n = sizes.constraints in rw (le-ltb j (length Q.constraints) (omega arith), n) refl

    pub step-trims : {U : List ℕ} {changed : Bool} {v : ℕ} → Trimming ((j - p.parts.c) ∷ []) T w U changed v → Strikes Q (step_at Q j) T U changed × TrimmedIn Q v U
    step-trims {U} {changed} t =
        let s = trimming_strikes Q (j - p.parts.c) string-there T w (record { long = wide; words = bd; trimmed = pre.2 }) t in
        (subst (λ (c : Constraint). Strikes Q c T U changed) (sym trims) s.0, s.1)

  -- constraint j
  module _ (less : j < p.parts.c) (r : Record) (is : constraint_of r ≡ get_or Q.constraints j (always 0)) where
    pub constraint_asks : {ks : List ℕ} → KindsIn p ks
        → (lendable Q T ≡ true) × KindsIn p ks × In (constraint_of r) Q.constraints × TrimmedIn Q w T
    constraint_asks kinds = (
      pre.0,
      kinds,
      subst (λ (c : Constraint). In c Q.constraints) (sym is) (get_or_in Q.constraints j (always 0) (omega (arith, sizes.constraints))),
      pre.2,
    )

    at-number : constraint_of r ≡ step_at Q j
    unfolding step_at
    at-number = let n = sizes.constraints in rw (lt-ltb j (length Q.constraints) (omega arith)) is

    pub step_constrains : {U : List ℕ} {changed : Bool} → Strikes Q (constraint_of r) T U changed → Strikes Q (step_at Q j) T U changed
    step_constrains {U} {changed} s = subst (λ (c : Constraint). Strikes Q c T U changed) at-number s
