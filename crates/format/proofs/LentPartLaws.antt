-- The order of refusals 5 to 8 over the parts as they are lent: what each test answers decides the number. Assumes nothing.
use mathlib.Core.Path.{◌≡◌, sym, ap, ◌∙◌}
use mathlib.Core.Bool.{Bool, true, false}
use mathlib.Core.List.{List, map}
use Prim.Native.Nat.{ℕ, ◌+◌, ◌-◌, ◌*◌, ◌≤◌}
use native.Mathlib.Omega.{arith}
use lib.ListN.{length, take, drop}
use lib.Seq.{length-take-le}
use Rattle.model.specs.Layout.{little}
use Rattle.model.specs.Reading.{pieces, automata_in, symbols_below, problem_of}
use Rattle.automata.specs.Walk.{present}
use Rattle.layout.specs.declared.Parts.{Parts}
use Rattle.layout.specs.Replied.{parts_of, PartsFit}
use Rattle.records.specs.Records.{refusal_of}
use Rattle.format.specs.Accepting.{number_of}
use Rattle.format.proofs.RefusalOrderLaws.{number-automata, number-table, number-records}

-- what looking at the table asks
pub rows-there : (file : List ℕ) (p : Parts) → PartsFit file p → (1 ≤ p.k) × (p.k ≤ 64) × (p.s ≤ 16) × (8 * (64 * p.s) ≤ length (take p.constraints_at file))
rows-there file p fit =
    let n = length-take-le p.constraints_at file (omega (arith, fit.constraints-end, fit.automata-end, fit.trailer-end)) in
    (fit.symbols-some, fit.symbols-most, fit.strings-most, omega (arith, n, fit.table-end))

module _ (file : List ℕ) (p : Parts) (fit : PartsFit file p) (whole : Bool) where
  -- the bytes that are lent to each test
  abbrev automata_bytes : List ℕ
  automata_bytes = take (p.end - p.automata_at) (drop p.automata_at file)

  abbrev table_bytes : List ℕ
  table_bytes = take p.constraints_at file

  abbrev constraint_bytes : List ℕ
  constraint_bytes = take (p.automata_at - p.constraints_at) (drop p.constraints_at file)

  module _ (walked : whole ≡ present (automata_in p.k p.d automata_bytes)) where
    pub five : whole ≡ false → 5 ≡ number_of (problem_of (parts_of file p))
    unfolding parts_of
    five e = sym (number-automata (parts_of file p) (sym walked ∙ e))

    module _ (low : Bool) (looked : (t : ℕ) → low ≡ symbols_below p.k p.s (map little (pieces (64 * p.s + t) 8 table_bytes))) (e : whole ≡ true) where
      table-low : low ≡ symbols_below p.k p.s (map little (pieces (64 * p.s + p.t) 8 (take (8 * (64 * p.s + p.t)) file)))
      table-low = looked p.t ∙ ap (λ (n : ℕ). symbols_below p.k p.s (map little (pieces (64 * p.s + p.t) 8 (take n file)))) fit.table-end

      pub six : low ≡ false → 6 ≡ number_of (problem_of (parts_of file p))
      unfolding parts_of
      six f = sym (number-table (parts_of file p) (sym walked ∙ e) (sym table-low ∙ f))

      pub seven-or-eight : (r : ℕ) → r ≡ refusal_of p.s p.t p.d (pieces p.c 4 constraint_bytes) → low ≡ true → r ≡ number_of (problem_of (parts_of file p))
      unfolding parts_of
      seven-or-eight r q f =
          let n : p.automata_at - p.constraints_at ≡ 4 * p.c = omega (arith, fit.constraints-end) in
          q ∙ ap (λ (n : ℕ). refusal_of p.s p.t p.d (pieces p.c 4 (take n (drop p.constraints_at file)))) n
          ∙ sym (number-records (parts_of file p) (sym walked ∙ e) (sym table-low ∙ f))
