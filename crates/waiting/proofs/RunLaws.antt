-- A run of constraints that wait: each turn takes one of them, and where it strikes those that share a variable with it wait. How it starts, and how it ends.
-- Assumes nothing.
use Rattle.std.specs.Prelude.{Some, None}
use mathlib.Core.Path.{◌≡◌, refl, sym, ap, subst, ◌∙◌}
use mathlib.Core.Logic.{⊎_elim}
use mathlib.Core.Bool.{true, false, false≢true}
use mathlib.Core.List.{List}
use Prim.Native.Nat.{ℕ, ◌+◌, ◌-◌, ◌*◌, ◌^◌, ◌≤◌, ◌<◌}
use native.Mathlib.Omega.{arith}
use lib.Bits.{bit_or}
use Rattle.std.specs.Int.Bits.{or_zero_r}
use lib.ListN.{length, get_or}
use Rattle.model.specs.Words.{bit, bits, Words, size}
use Rattle.model.specs.Constraints.{Problem, always, width}
use Rattle.model.specs.Solutions.{WellFormed}
use Rattle.model.specs.Support.{narrowed}
use Rattle.laws.proofs.ListLaws.{never_true}
use Rattle.laws.specs.Inclusion.{Below}
use Rattle.laws.specs.Lent.{lendable}
use Rattle.laws.proofs.WordLaws.{zero_bit, sub_within, of-or-bit}
use Rattle.laws.proofs.TableLaws.{bits_most}
use Rattle.laws.proofs.SupportLaws.{narrowed-below}
use Rattle.laws.proofs.CallLaws.{lendable-below}
use Rattle.shortcuts.specs.Waiting.{Apart, Running}
use Rattle.shortcuts.proofs.WaitLaws.{Wakes}
use Rattle.shortcuts.proofs.RunningLaws.{running-turn, running-done, running_stuck}
use Rattle.shortcuts.proofs.TurnLaws.{pending_still, pending_woken, fewer-bits}
use Rattle.waiting.specs.Turns.{Inside, Pending, Enough, TidyRows, Woken, Turned, Ends}

-- what waits after a turn is enough, where only constraints that the turn did not touch are left out
module _ {P : Problem} (w j more : ℕ) (here : bit w j ≡ true) {W Z : List ℕ} (table : Z ≡ narrowed P (get_or P.constraints j (always 0)) W) (e : Enough P j W Z more) where
  pub wakes_enough : Wakes P P.constraints j (bit w) (bit (bit_or (w - 2 ^ j) more)) W
  wakes_enough = record {
    rested = λ d h ne q. never_true (bit w d) (λ t. false≢true (sym q ∙ pending_still w j more d here ne t));
    apart = λ d h ne q. subst (Apart P (get_or P.constraints d (always 0)) W) table
        (e.apart d h ne (never_true (bit more d) (λ t. false≢true (sym q ∙ pending_woken w j more d t))));
  }

-- what a turn lowers: 65 for each bit of the table, and 1 for each constraint that waits
unfoldable pub load : List ℕ → ℕ → ℕ
load U w = 65 * size U + length (bits w)

-- from U with u waiting some turns lead to W with w waiting
pub record Went (P : Problem) (U : List ℕ) (u : ℕ) (W : List ℕ) (w : ℕ) : Type 0 where
  pub waits : (T : List ℕ) → Words T → length T ≡ width P → Pending P T U u → Pending P T W w
  pub same_length : length W ≡ length U
  pub lent : lendable P W ≡ true
  pub tidy : TidyRows P W
  pub inside : Inside P w

module _ (P : Problem) (U : List ℕ) (u : ℕ) where
  pub went_start : lendable P U ≡ true → TidyRows P U → Inside P u → Went P U u U u
  went_start l t i = record { waits = λ T bd ln r. r; same_length = refl; lent = l; tidy = t; inside = i }

  module _ (wf : WellFormed P) (most : length P.constraints ≤ 64) {W : List ℕ} {w : ℕ} (g : Went P U u W w) where
    -- nothing waits
    pub went_done : w ≡ 0 → Ends P U u W true
    went_done e = record {
      same_length = g.same_length;
      settles = λ T bd ln r q. running-done P wf T bd ln (g.waits T bd ln r).running (λ j l. ap (λ (x : ℕ). bit x j) e ∙ zero_bit j);
      dies = λ T bd ln r q. absurd (false≢true (sym q));
    }

    -- constraint j is taken, and leaves Z
    module _ (j : ℕ) (here : bit w j ≡ true) where
      less : j < length P.constraints
      less = g.inside j here

      rest-inside : Inside P (w - 2 ^ j)
      rest-inside d q = g.inside d (sub_within w j here d q)

      -- more wait
      pub went_woken : {Z : List ℕ} (more : ℕ) → Turned P j W Z (Some more) → Went P U u Z (bit_or (w - 2 ^ j) more) × (load Z (bit_or (w - 2 ^ j) more) < load W w)
      unfolding load
      went_woken {Z} more t = (
        record {
          waits = λ T bd ln r. record {
            running = subst (λ (Y : List ℕ). Running P T Y (bit (bit_or (w - 2 ^ j) more))) (sym k.table)
                (running-turn P wf T bd ln (g.waits T bd ln r).running j less (wakes_enough w j more here k.table k.enough));
            inside = all-inside;
          };
          same_length = t.same_length ∙ g.same_length;
          lent = lendable-below P Z W (subst (λ (T : List ℕ). Below T W) (sym k.table) (narrowed-below P (get_or P.constraints j (always 0)) W)) g.lent;
          tidy = k.tidy;
          inside = all-inside;
        },
        ⊎_elim lower (λ l. omega (arith, l, bits_most (bit_or (w - 2 ^ j) more))) k.struck,
      )
        where
          k : Woken P j W Z more
          k = t.leads

          all-inside : Inside P (bit_or (w - 2 ^ j) more)
          all-inside d q = ⊎_elim (λ x. rest-inside d x) (λ x. k.enough.inside d x) (of-or-bit (w - 2 ^ j) more d q)

          -- it struck nothing, and one waits less
          lower : (Z ≡ W) × (more ≡ 0) → load Z (bit_or (w - 2 ^ j) more) < load W w
          lower e =
              let z : bit_or (w - 2 ^ j) more ≡ w - 2 ^ j = ap (bit_or (w - 2 ^ j)) e.1 ∙ or_zero_r (w - 2 ^ j) in
              omega (arith, fewer-bits w j (omega (arith, less, most)) (λ d q. omega (arith, most, g.inside d q)) here, ap size e.0, ap (λ (v : ℕ). length (bits v)) z)

      -- it left a variable without a value
      pub went_dead : {Z : List ℕ} → Turned P j W Z None → Ends P U u Z false
      went_dead {Z} t = record {
        same_length = t.same_length ∙ g.same_length;
        settles = λ T bd ln r q. absurd (false≢true q);
        dies = λ T bd ln r q. running_stuck P wf T W (bit w) bd ln (g.waits T bd ln r).running j less t.leads;
      }
