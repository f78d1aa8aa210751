-- The trailer: its mark byte by byte, the trailer from its numbers, and its tests one after the other. Assumes nothing.
use mathlib.Core.Path.{◌≡◌, refl, sym, ap, ◌∙◌}
use mathlib.Core.List.{List, [], ◌∷◌}
use Prim.Native.Nat.{ℕ, ◌+◌, ◌-◌, ◌≤◌}
use native.Mathlib.Omega.{arith}
use lib.Dec.{eqb}
use lib.ListN.{length, drop}
use lib.Pointwise.{pointwise}
use Rattle.std.specs.List.{ends_with}
use Rattle.std.proofs.lemmas.List.{length-drop, take_all}
use Rattle.std.proofs.lemmas.Bool.Decides.{nat_tests}
use lib.Seq.{get_or-drop}
use Rattle.std.proofs.lemmas.List.{drop-drop}
use Rattle.model.specs.Lists.{same}
use Rattle.model.specs.Layout.{little, part, trailer, tail}
use Rattle.layout.specs.declared.Trailer.{Trailer}
use Rattle.layout.specs.Heads.{head_of}
use Rattle.reader.proofs.NumberLaws.{little-one}

-- where the trailer starts
abbrev start : List ℕ → ℕ
start file = length file - 24

eqb_turned : (a b : ℕ) → eqb a b ≡ eqb b a
eqb_turned a b = grind (arith, nat_tests)

-- how std compares two slices
pointwise-same : (xs ys : List ℕ) → pointwise eqb ys xs ≡ same xs ys
unfolding same
pointwise-same [] [] = refl
pointwise-same [] (y ∷ ys) = refl
pointwise-same (x ∷ xs) [] = refl
pointwise-same (x ∷ xs) (y ∷ ys) = rw (eqb_turned y x, pointwise-same xs ys) refl

module _ (file : List ℕ) where
  -- the mark is the last four bytes
  mark-last : 24 ≤ length file → (trailer file).mark ≡ drop (length file - 4) file
  unfolding trailer
  mark-last long =
      let at : length file - 24 + 20 ≡ length file - 4 = omega arith in
      let size : length (drop (length file - 4) file) ≤ 4 = omega (arith, length-drop (length file - 4) file) in
      rw (drop-drop 20 (start file) file, at) (take_all 4 (drop (length file - 4) file) size)

  -- a file ends in the mark just where its trailer has it
  pub mark-ends : 24 ≤ length file → ends_with eqb file tail ≡ same (trailer file).mark tail
  mark-ends long = pointwise-same (drop (length file - 4) file) tail ∙ ap (λ (bs : List ℕ). same bs tail) (sym (mark-last long))

  -- the numbers read one after the other make the trailer
  pub trailer-numbers : (h : Trailer)
      → h.k ≡ little (part (start file) 1 file)
      → h.s ≡ little (part (start file + 1) 1 file)
      → h.t ≡ little (part (start file + 1 + 1) 1 file)
      → h.d ≡ little (part (start file + 1 + 1 + 1) 1 file)
      → h.c ≡ little (part (start file + 1 + 1 + 1 + 1) 2 file)
      → h.spare ≡ little (part (start file + 1 + 1 + 1 + 1 + 2) 2 file)
      → h.table ≡ little (part (start file + 1 + 1 + 1 + 1 + 2 + 2) 4 file)
      → h.constraints ≡ little (part (start file + 1 + 1 + 1 + 1 + 2 + 2 + 4) 4 file)
      → h.automata ≡ little (part (start file + 1 + 1 + 1 + 1 + 2 + 2 + 4 + 4) 4 file)
      → head_of (trailer file).mark h ≡ trailer file
  unfolding head_of trailer
  trailer-numbers h k s t d c spare table constraints automata =
      let at = start file in
      let e₀ : at + 0 ≡ at = omega arith in
      let e₂ : at + 1 + 1 ≡ at + 2 = omega arith in
      let e₃ : at + 2 + 1 ≡ at + 3 = omega arith in
      let e₄ : at + 3 + 1 ≡ at + 4 = omega arith in
      let e₆ : at + 4 + 2 ≡ at + 6 = omega arith in
      let e₈ : at + 6 + 2 ≡ at + 8 = omega arith in
      let e₁₂ : at + 8 + 4 ≡ at + 12 = omega arith in
      let e₁₆ : at + 12 + 4 ≡ at + 16 = omega arith in
      rw (k, s, t, d, c, spare, table, constraints, automata) (simp (e₂, e₃, e₄, e₆, e₈, e₁₂, e₁₆, little-one, drop-drop, get_or-drop, e₀))
