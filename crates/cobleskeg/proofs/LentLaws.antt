-- What looking over a lent table says, and what Step and Settle answer. Assumes nothing.
use mathlib.Core.Path.{◌≡◌, refl, sym, ap, ap₂, ◌∙◌}
use mathlib.Core.Bool.{Bool, true, false}
use mathlib.Core.List.{List}
use Prim.Native.Nat.{ℕ, ◌+◌, ◌*◌, ◌≤◌, ◌<◌}
use native.Mathlib.Omega.{arith}
use lib.Dec.{eqb}
use lib.ListN.{length}
use borrow.Author.Tests.{eq-eqb, ne_eqb, le-ltb}
use Rattle.std.specs.Prelude.{Ok, Err}
use Rattle.model.specs.Words.{Words}
use Rattle.model.specs.Constraints as model
use Rattle.model.specs.Constraints.{width}
use Rattle.model.specs.Solutions.{WellFormed}
use Rattle.model.specs.Rounds.{every_value, settling, settled}
use Rattle.model.specs.Replies.{refused, answered}
use Rattle.model.specs.Reading.{symbols_below, reading}
use Rattle.model.specs.Operations.{step_at, step_count, step, settle}
use Rattle.laws.specs.Lent.{Stable, lendable, unlendable}
use Rattle.laws.proofs.RoundLaws.{settled-below, settled-stable}
use Rattle.laws.proofs.CallLaws.{lendable-length, step-lendable, step_too_far, step_other, settle-lendable, settle_other}
use Rattle.laws.proofs.Demand.{step-refused, settle-refused}
use Rattle.format.specs.declared.problem.Problem.{Problem}
use Rattle.format.specs.Accepting.{content_of}
use Rattle.format.specs.Problems.{the_problem}
use Rattle.refusals.specs.declared.Refusal.{Refusal}
use Rattle.refusals.specs.declared.Refusal.TheVariants.{TableLength, TableSymbols}
use Rattle.refusals.specs.Numbers.{number}
use Rattle.steps.specs.Step.{Step}
use Rattle.cobleskeg.specs.Answers.{Lends}
use Rattle.cobleskeg.proofs.AnswerLaws.{Accepts, counts, sound}

-- ---- looking over a lent table

module _ (p : Problem) (T : List ℕ) where
  pub nine : (length T ≡ width (the_problem p) → ⊥) → Lends (the_problem p) T (Err TableLength)
  unfolding lendable unlendable
  nine h = let q = ne_eqb (length T) (width (the_problem p)) h in (rw q refl, rw q refl)

  -- what looking through its symbol words asks
  pub in_range : length T ≡ width (the_problem p) → (1 ≤ p.parts.k) × (p.parts.k ≤ 64) × (p.parts.s ≤ 16) × (64 * p.parts.s ≤ length T)
  in_range e = let f = p.usable.fits in (f.symbols-some, f.symbols-most, f.strings-most, omega (arith, (counts p).strings))

  module _ (long : length T ≡ width (the_problem p)) (low : Bool) (looked : low ≡ symbols_below p.parts.k p.parts.s T) where
    long-enough : eqb (length T) (width (the_problem p)) ≡ true
    long-enough = eq-eqb (length T) (width (the_problem p)) long

    is-low : low ≡ symbols_below (the_problem p).symbols (the_problem p).strings T
    is-low = looked ∙ ap₂ (λ (i j : ℕ). symbols_below i j T) (sym (counts p).symbols) (sym (counts p).strings)

    pub ten : low ≡ false → Lends (the_problem p) T (Err TableSymbols)
    unfolding lendable unlendable
    ten e = (rw (long-enough, sym is-low ∙ e) refl, rw long-enough refl)

    pub lends : low ≡ true → Lends (the_problem p) T (Ok tt)
    unfolding lendable
    lends e = rw (long-enough, sym is-low ∙ e) refl

-- ---- Step and Settle, of a file that is refused

module _ (file : List ℕ) (n : ℕ) (e : reading file ≡ refused n) where
  pub step-early : (j : ℕ) (T : List ℕ) → step (reading file) j T ≡ refused n
  step-early j T = ap (λ r. step r j T) e ∙ step-refused n j T

  pub settle-early : (T : List ℕ) → settle (reading file) T ≡ refused n
  settle-early T = ap (λ r. settle r T) e ∙ settle-refused n T

-- ---- of one that is accepted

module _ {file : List ℕ} {p : Problem} (a : Accepts file p) (T : List ℕ) where
  abbrev P : model.Problem
  P = the_problem p

  on-step : (j : ℕ) → step (reading file) j T ≡ step (answered (content_of p.file.now p.parts)) j T
  on-step j = ap (λ r. step r j T) a.reads

  on-settle : settle (reading file) T ≡ settle (answered (content_of p.file.now p.parts)) T
  on-settle = ap (λ r. settle r T) a.reads

  -- the table is refused
  module _ (e : Refusal) (u : (lendable P T ≡ false) × (number e ≡ unlendable P T)) where
    pub step-unlent : (j : ℕ) → step (reading file) j T ≡ refused (number e)
    step-unlent j = on-step j ∙ step_other (content_of p.file.now p.parts) T j u.0 ∙ ap (λ (k : ℕ). refused k) (sym u.1)

    pub settle-unlent : settle (reading file) T ≡ refused (number e)
    settle-unlent = on-settle ∙ settle_other (content_of p.file.now p.parts) T u.0 ∙ ap (λ (k : ℕ). refused k) (sym u.1)

  module _ (fits : lendable P T ≡ true) where
    steps-are : step_count P ≡ p.parts.c + p.parts.s
    steps-are = let c = counts p in omega (arith, c.constraints, c.strings)

    pub step_eleven : (j : ℕ) → p.parts.c + p.parts.s ≤ j → step (reading file) j T ≡ refused 11
    step_eleven j h = let s = steps-are in on-step j ∙ step_too_far (content_of p.file.now p.parts) T j fits (le-ltb j (step_count P) (omega arith))

    pub step-done : (j : ℕ) → j < p.parts.c + p.parts.s → (U : List ℕ) (k : ℕ) → Step P (step_at P j) T U k → answered (record { struck = k; table = U }) ≡ step (reading file) j T
    step-done j h U k st =
        let s = steps-are in
        let e = on-step j ∙ step-lendable (content_of p.file.now p.parts) T j fits (omega arith) in
        cc (e, st.table, st.count)

    module _ (U : List ℕ) (is : U ≡ settled P T) where
      long : length U ≡ width P
      long = ap length is ∙ (settled-below P T).same_length ∙ lendable-length P T fits

      pub rows-there : 64 * p.parts.s ≤ length U
      rows-there = let c = counts p in omega (arith, c.strings, long)

      -- whether every variable has a value in the settled table, as it was looked through
      pub value_told : Words T → (v : Bool)
          → ((P : model.Problem) → WellFormed P → p.parts.s ≡ P.strings → length U ≡ width P → Stable P U → v ≡ every_value P U) → v ≡ every_value P (settled P T)
      value_told w v looked =
          let c = counts p in
          let stable : Stable P U = rw is (settled-stable P T w) in
          looked P (sound p).well_formed (sym c.strings) long stable ∙ ap (every_value P) is

    pub settles : settle (reading file) T ≡ answered (record { rounds = (settling P T).rounds; every_value = every_value P (settled P T); table = settled P T })
    settles = on-settle ∙ settle-lendable (content_of p.file.now p.parts) T fits

    pub settle-done : (U : List ℕ) (k : ℕ) (v : Bool) → k ≡ (settling P T).rounds → U ≡ settled P T → v ≡ every_value P (settled P T)
        → answered (record { rounds = k; every_value = v; table = U }) ≡ settle (reading file) T
    settle-done U k v ek eu ev = cc settles
