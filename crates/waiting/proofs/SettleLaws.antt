-- Settling a lent table of a file: what each function that it calls asks, and what the table then is, from what they say. Assumes nothing.
use Rattle.std.specs.Prelude.{Option, IfSome}
use Rattle.std.proofs.lemmas.Option.{IfSome_then}
use mathlib.Core.Path.{◌≡◌, refl, sym, ap, subst, ◌∙◌}
use mathlib.Core.Bool.{Bool, true, false, false≢true}
use mathlib.Core.List.{List}
use Prim.Native.Nat.{ℕ, ◌+◌, ◌*◌, ◌≤◌, ◌<◌}
use native.Mathlib.Omega.{arith}
use lib.ListN.{length}
use Rattle.model.specs.Words.{Words}
use Rattle.model.specs.Constraints.{Problem, width}
use Rattle.model.specs.Solutions.{WellFormed}
use Rattle.model.specs.Rounds.{every_value, settled}
use Rattle.laws.specs.Lent.{Stable, lendable}
use Rattle.laws.proofs.TableLaws.{below-words}
use Rattle.laws.proofs.CallLaws.{lendable-length, lendable-below}
use Rattle.laws.proofs.RoundLaws.{settled-stable}
use Rattle.shortcuts.specs.Waiting.{Early}
use Rattle.shortcuts.proofs.RunningLaws.{dead-below, dead-length}
use Rattle.format.specs.Problems.{the_problem}
use Rattle.format.proofs.ContentLaws.{Counts, usable-counts, usable-sound}
use Rattle.steps.proofs.TrimmedLaws.{tidy-string}
use Rattle.waiting.specs.declared.prepared.Prepared.{Prepared}
use Rattle.waiting.specs.Turns.{Inside, TidyRows, Pending, Ends}
use Rattle.waiting.specs.Beginnings.{ChildAt, Readies, Wakes, Lengths}
use Rattle.waiting.proofs.BeginLaws.{ready_pending}

module _ (p : Prepared) (T : List ℕ) (from : Option ℕ) (bd : Words T) (pre : (lendable (the_problem p.problem) T ≡ true) × ChildAt (the_problem p.problem) T from) where
  abbrev P : Problem
  P = the_problem p.problem

  abbrev s : ℕ
  s = p.problem.parts.s

  long : length T ≡ width P
  long = lendable-length P T pre.0

  formed : WellFormed P
  formed = (usable-sound p.problem.file.now p.problem.parts p.problem.usable p.problem.bytes).well_formed

  counts : Counts p.problem.file.now p.problem.parts
  counts = usable-counts p.problem.file.now p.problem.parts p.problem.usable

  strings-are : P.strings ≡ s
  strings-are = counts.strings

  -- a word of the table has a variable
  pub inside_asks : IfSome from (λ at. at < 64 * s + 16)
  inside_asks = IfSome_then from pre.1 (λ at c. let f = p.problem.usable.fits in let n = counts in omega (arith, c.0, n.strings, n.numbers, f.numbers-most))

  strings_in : (W : List ℕ) → length W ≡ length T → 64 * s ≤ length W
  strings_in W e = let l = long in let n = strings-are in omega arith

  pub ready_asks : 64 * s ≤ length T
  ready_asks = strings_in T refl

  module _ {U : List ℕ} {all : Bool} (r : Readies s from T U all) where
    -- a row has no value
    pub settle_unready : all ≡ false → Early P T U false
    settle_unready q = record { same_length = r.same_length; table = λ x. absurd (false≢true x); says = sym (r.dead q P (sym strings-are) long bd) }

    pub lengths_asks : 64 * s ≤ length U
    lengths_asks = strings_in U r.same_length

    module _ (ready : all ≡ true) {w : ℕ} (v : Wakes p.problem.parts p.index.now from w) where
      waiting : Pending P T U w
      waiting = ready_pending p.problem.parts p.index.now T P formed strings-are counts.constraints long bd p.indexed from pre.1 (subst (Readies s from T U) ready r) v

      words_left : Words U
      words_left = below-words waiting.running.under bd

      lengths-left : length U ≡ width P
      lengths-left = r.same_length ∙ long

      -- a string has no length
      pub settle-empty : {each : Bool} → Lengths s U each → each ≡ false → Early P T U false
      settle-empty l q =
          let x = l.none q in
          let h : x.0 < P.strings = subst (λ (n : ℕ). x.0 < n) (sym strings-are) x.1 in
          record {
            same_length = r.same_length;
            table = λ y. absurd (false≢true y);
            says = sym (dead-below P (settled P T) U waiting.running.above (dead-length P U x.0 h x.2));
          }

      tidy-rows : {each : Bool} → Lengths s U each → each ≡ true → TidyRows P U
      tidy-rows l q x h = tidy-string P U x lengths-left words_left h (waiting.running.trimmed x h) (l.each q x (subst (λ (n : ℕ). x < n) strings-are h))

      pub run_asks : {each : Bool} → Lengths s U each → each ≡ true → (lendable P U ≡ true) × Inside P w × TidyRows P U
      run_asks l q = (lendable-below P U T waiting.running.under pre.0, waiting.inside, tidy-rows l q)

      module _ {W : List ℕ} {ends : Bool} (e : Ends P U w W ends) where
        same-words : length W ≡ length T
        same-words = e.same_length ∙ r.same_length

        -- a variable has no value
        pub settle-dead : ends ≡ false → Early P T W false
        settle-dead q = record { same_length = same-words; table = λ x. absurd (false≢true x); says = sym (e.dies T bd long waiting q) }

        -- nothing waits: v is what a look at the settled table says
        pub settle-done : ends ≡ true → {v : Bool} → ((Q : Problem) → WellFormed Q → s ≡ Q.strings → length W ≡ width Q → Stable Q W → v ≡ every_value Q W) → Early P T W v
        settle-done q {v} look =
            let is : W ≡ settled P T = e.settles T bd long waiting q in
            let stable : Stable P W = subst (Stable P) (sym is) (settled-stable P T bd) in
            record {
              same_length = same-words;
              table = λ x. is;
              says = look P formed (sym strings-are) (same-words ∙ long) stable ∙ ap (every_value P) is;
            }
