-- How a run starts: at a table of which nothing is known every string is trimmed and every constraint waits; at a child only the string of its word is trimmed,
-- and the constraints that name the word's variable wait. Assumes nothing.
use mathlib.Core.Path.{◌≡◌, sym, subst, ◌∙◌}
use mathlib.Core.Bool.{true, false}
use mathlib.Core.List.{List}
use Prim.Native.Nat.{ℕ, ◌+◌, ◌/◌, ◌^◌, ◌<◌}
use native.Mathlib.Omega.{arith}
use lib.ListN.{length, get_or, set}
use Rattle.model.specs.Words.{bit, Words}
use Rattle.model.specs.Domains.{str, num, owner}
use Rattle.model.specs.Constraints.{Problem, always, variables, width}
use Rattle.model.specs.Solutions.{WellFormed}
use Rattle.model.specs.Support.{touches, narrowed}
use Rattle.laws.specs.Inclusion.{In}
use Rattle.laws.proofs.WordLaws.{bit_high}
use Rattle.laws.proofs.ShiftLaws.{bit-shr}
use Rattle.shortcuts.specs.Waiting.{Trimming, Child}
use Rattle.shortcuts.proofs.RunningLaws.{child-number, child-text, trim-whole}
use Rattle.shortcuts.proofs.TurnLaws.{woken-named}
use Rattle.waiting.specs.Turns.{Inside, Pending}

-- ---- words of what waits

-- a bit from i on
pub bit-later : (w i b : ℕ) → w < 2 ^ 64 → bit (w / 2 ^ i) b ≡ true → (bit w (i + b) ≡ true) × (i + b < 64)
bit-later w i b h q = let r : bit w (i + b) ≡ true = sym (bit-shr w i b) ∙ q in (r, bit_high w 64 (i + b) h r)

-- ---- the three ways to start

module _ (P : Problem) (wf : WellFormed P) (T : List ℕ) (bd : Words T) (ln : length T ≡ width P) where
  pub start-whole : (U : List ℕ) (s c w : ℕ) → s ≡ P.strings → Trimming P T U s → length P.constraints ≡ c
      → ((j : ℕ) → bit w j ≡ true → j < c) × ((j : ℕ) → j < c → bit w j ≡ true) → Pending P T U w
  start-whole U s c w e r n a = record {
    running = trim-whole P T bd ln (subst (Trimming P T U) e r) (bit w) (λ j l. a.1 j (omega arith));
    inside = λ j q. omega (arith, a.0 j q, n);
  }

  module _ (k : ℕ) (child : Child P T k) (w : ℕ) (wakes : (d : ℕ) → d < length P.constraints → In (owner P.strings k) (variables (get_or P.constraints d (always 0)))
      → bit w d ≡ true) (inside : Inside P w) where
    woken : (j : ℕ) → j < length P.constraints → bit w j ≡ false → touches P (get_or P.constraints j (always 0)) k ≡ false
    woken j l q = woken-named P (get_or P.constraints j (always 0)) k (bit w j) (wakes j l) q

    words : Words (set child.node k (2 ^ child.value))
    words = subst Words child.is bd

    pub start-text : (U : List ℕ) (x : ℕ) → x < P.strings → owner P.strings k ≡ str x → U ≡ narrowed P (always x) T → Pending P T U w
    start-text U x h o e = record {
      running = rw (e, child.is) (child-text P wf child.node child.long child.stable k child.value words (bit w) woken x h o);
      inside = inside;
    }

    pub start-number : (n : ℕ) → owner P.strings k ≡ num n → Pending P T T w
    start-number n o = record {
      running = rw child.is (child-number P wf child.node child.long child.stable k child.value words (bit w) woken n o);
      inside = inside;
    }
