-- Each way a layout ends is the model's: a test that fails gives its refusal, and numbers that pass all four tests give parts that fit. Assumes nothing.
use mathlib.Core.Path.{◌≡◌, refl, sym, ap, ◌∙◌}
use mathlib.Core.Bool.{true, false}
use mathlib.Core.List.{List}
use Rattle.std.specs.Prelude.{Ok, Err}
use Prim.Native.Nat.{ℕ, ◌+◌, ◌-◌, ◌*◌, ◌≤◌, ◌<◌}
use native.Mathlib.Omega.{arith}
use lib.ListN.{length}
use borrow.Author.Tests.{le-leb, lt-leb}
use Rattle.model.specs.Lists.{same}
use Rattle.model.specs.Replies.{Reply, answered, require}
use Rattle.model.specs.Layout as model
use Rattle.model.specs.Layout.{back, trailer, tail, in_bounds, table_words, abutting, layout}
use Rattle.laws.proofs.LayoutLaws.{Fitting, abutting-fits, fitting-parts, layout-parts}
use Rattle.layout.specs.declared.Trailer.{Trailer}
use Rattle.refusals.specs.declared.Refusal.TheVariants.{FileLength, Mark, Counts, Layout}
use Rattle.layout.specs.Heads.{head_of, placed}
use Rattle.layout.specs.Replied.{parts_of, reply_of, PartsFit}

module _ (file : List ℕ) where
  -- what the model answers of a trailer
  abbrev answer_of : model.Trailer → Reply model.Parts
  answer_of H = answered (record {
    symbols = H.symbols;
    strings = H.strings;
    numbers = H.numbers;
    automata = H.automata;
    constraints = H.constraints;
    table_bytes = back file H.table_back (8 * table_words H);
    constraint_bytes = back file H.constraints_back (4 * H.constraints);
    automata_bytes = back file H.automata_back H.automata_back;
  })

  pub short-refused : length file < 24 → reply_of file (Err FileLength) ≡ layout file
  unfolding reply_of layout require
  short-refused l = simp (lt-leb 24 (length file) l)

  module _ (long : 24 ≤ length file) where
    pub unmarked-refused : same (trailer file).mark tail ≡ false → reply_of file (Err Mark) ≡ layout file
    unfolding reply_of layout require
    unmarked-refused f = simp (le-leb 24 (length file) long, f)

    module _ (marked : same (trailer file).mark tail ≡ true) (h : Trailer) (e : head_of (trailer file).mark h ≡ trailer file) where
      same-bounds : in_bounds (trailer file) ≡ in_bounds (head_of tail h)
      unfolding head_of in_bounds
      same-bounds = ap in_bounds (sym e)

      same-abutting : abutting (length file) (trailer file) ≡ abutting (length file) (head_of tail h)
      unfolding head_of abutting
      same-abutting = ap (abutting (length file)) (sym e)

      pub unbounded_refused : in_bounds (head_of tail h) ≡ false → reply_of file (Err Counts) ≡ layout file
      unfolding reply_of layout require
      unbounded_refused f = simp (le-leb 24 (length file) long, marked, same-bounds, f)

      module _ (bounded : in_bounds (head_of tail h) ≡ true) where
        pub unfitting_refused : abutting (length file) (head_of tail h) ≡ false → reply_of file (Err Layout) ≡ layout file
        unfolding reply_of layout require
        unfitting_refused f = simp (le-leb 24 (length file) long, marked, same-bounds, bounded, same-abutting, f)

        module _ (abuts : abutting (length file) (head_of tail h) ≡ true) where
          fitting : Fitting (length file) (head_of tail h)
          fitting = abutting-fits (length file) (head_of tail h) abuts

          answers : answer_of (head_of tail h) ≡ layout file
          unfolding head_of layout require
          answers = ap answer_of e ∙ sym (simp (le-leb 24 (length file) long, marked, same-bounds, bounded, same-abutting, abuts))

          pub laid-answered : reply_of file (Ok (placed h (length file - 24))) ≡ layout file
          unfolding reply_of parts_of placed head_of
          laid-answered =
              let e₂ : h.table ≡ 8 * (64 * h.s + h.t) + 4 * h.c + h.automata = fitting.table-back in
              let e₃ : length file ≡ h.table + 24 = fitting.file-size in
              let parts = fitting-parts file (head_of tail h) fitting in
              let d : length file - 24 - (8 * (64 * h.s + h.t) + 4 * h.c) ≡ h.automata = omega arith in
              rw d (rw (parts.0, parts.1, parts.2) at answers)

          pub laid-fits : PartsFit file (placed h (length file - 24))
          unfolding reply_of parts_of placed head_of
          laid-fits =
              let e₂ : h.table ≡ 8 * (64 * h.s + h.t) + 4 * h.c + h.automata = fitting.table-back in
              let e₃ : length file ≡ h.table + 24 = fitting.file-size in
              let bounds = (layout-parts file _ (sym laid-answered)).bounds in
              record {
                table-end = refl;
                constraints-end = refl;
                automata-end = omega arith;
                trailer-end = omega arith;
                symbols-some = bounds.symbols-some;
                symbols-most = bounds.symbols-most;
                strings-most = bounds.strings-most;
                numbers-most = bounds.numbers-most;
                automata-most = bounds.automata-most;
                constraints-most = bounds.constraints-most;
              }
