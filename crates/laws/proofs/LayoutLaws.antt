-- Laws of the layout: a file that passes refusals 1 to 4 is its three parts, one after the other, and a trailer of 24 bytes. Assumes nothing.
use mathlib.Core.Path.{◌≡◌, sym, ap, ap₂, subst, ◌∙◌}
use mathlib.Core.Bool.{true}
use mathlib.Core.List.{List, ◌++◌}
use Prim.Native.Nat.{ℕ, ◌+◌, ◌-◌, ◌*◌, ◌≤◌}
use native.Mathlib.Omega.{arith}
use lib.ListN.{length, take, drop, length-drop, take-append-drop}
use lib.Seq.{length-take-le, drop-drop}
use borrow.Author.Tests.{leb-true, eqb-true}
use Rattle.model.specs.Replies.{answered}
use Rattle.model.specs.Layout.{part, back, Parts, Trailer, trailer, in_bounds, table_words, abutting, layout}
use Rattle.laws.proofs.ListLaws.{and_true}
use Rattle.laws.proofs.ReplyLaws.{require-answered, answered_inj}

-- the counts of refusal 3 are in range
pub record InBounds (p : Parts) : Type 0 where
  pub symbols-some : 1 ≤ p.symbols
  pub symbols-most : p.symbols ≤ 64
  pub strings-most : p.strings ≤ 16
  pub numbers-most : p.numbers ≤ 16
  pub automata-most : p.automata ≤ 8
  pub constraints-most : p.constraints ≤ 64

-- the parts abut: each has its size, and with the trailer they are the file
pub record Abut (file : List ℕ) (p : Parts) : Type 0 where
  pub bounds : InBounds p
  pub table-size : length p.table_bytes ≡ 8 * (64 * p.strings + p.numbers)
  pub constraints-size : length p.constraint_bytes ≡ 4 * p.constraints
  pub whole : file ≡ p.table_bytes ++ (p.constraint_bytes ++ (p.automata_bytes ++ drop (length file - 24) file))

-- the trailer's tests, as facts about numbers
pub record Fitting (size : ℕ) (h : Trailer) : Type 0 where
  pub constraints-back : h.constraints_back ≡ 4 * h.constraints + h.automata_back
  pub table-back : h.table_back ≡ 8 * table_words h + 4 * h.constraints + h.automata_back
  pub file-size : size ≡ h.table_back + 24

pub abutting-fits : (size : ℕ) (h : Trailer) → abutting size h ≡ true → Fitting size h
unfolding abutting
abutting-fits size h e =
    let t = and_true _ _ e in
    let u = and_true _ _ t.0 in
    record { constraints-back = eqb-true _ _ u.0; table-back = eqb-true _ _ u.1; file-size = eqb-true _ _ t.1 }

-- a list is three parts of it, one after the other, and the rest
three-parts : (l : List ℕ) (a b c n : ℕ) → a + b + c ≡ n → l ≡ part 0 a l ++ (part a b l ++ (part (a + b) c l ++ drop n l))
three-parts l a b c n e =
    sym (take-append-drop a l)
    ∙ ap (λ (r : List ℕ). take a l ++ r) (sym (take-append-drop b (drop a l)) ∙ ap (λ (r : List ℕ). take b (drop a l) ++ r) (drop-drop b a l
    ∙ sym (take-append-drop c (drop (a + b) l)) ∙ ap (λ (r : List ℕ). take c (drop (a + b) l) ++ r) (drop-drop c (a + b) l ∙ ap (λ (m : ℕ). drop m l) e)))

pub part_length : (i n : ℕ) (l : List ℕ) → i + n ≤ length l → length (part i n l) ≡ n
part_length i n l h = length-take-le n (drop i l) (omega (arith, length-drop i l))

module _ (file : List ℕ) where
  -- where the trailer's distances lead
  pub fitting-parts : (h : Trailer) → Fitting (length file) h
      → (back file h.table_back (8 * table_words h) ≡ part 0 (8 * table_words h) file)
      × (back file h.constraints_back (4 * h.constraints) ≡ part (8 * table_words h) (4 * h.constraints) file)
      × (back file h.automata_back h.automata_back ≡ part (8 * table_words h + 4 * h.constraints) h.automata_back file)
  fitting-parts h f =
      let e₁ = f.constraints-back in
      let e₂ = f.table-back in
      let e₃ = f.file-size in
      let a : length file - 24 - h.table_back ≡ 0 = omega arith in
      let b : length file - 24 - h.constraints_back ≡ 8 * table_words h = omega arith in
      let c : length file - 24 - h.automata_back ≡ 8 * table_words h + 4 * h.constraints = omega arith in (
        ap (λ (i : ℕ). part i (8 * table_words h) file) a,
        ap (λ (i : ℕ). part i (4 * h.constraints) file) b,
        ap (λ (i : ℕ). part i h.automata_back file) c,
      )

  pub layout-parts : (p : Parts) → layout file ≡ answered p → Abut file p
  unfolding layout in_bounds
  layout-parts p e =
      let h : Trailer = trailer file in
      let t₁ = require-answered _ 1 _ p e in
      let t₂ = require-answered _ 2 _ p t₁.1 in
      let t₃ = require-answered _ 3 _ p t₂.1 in
      let t₄ = require-answered _ 4 _ p t₃.1 in
      let f = abutting-fits (length file) h t₄.0 in
      let e₂ = f.table-back in
      let e₃ = f.file-size in
      let n : 8 * table_words h + 4 * h.constraints + h.automata_back ≡ length file - 24 = omega arith in
      let at = fitting-parts h f in
      let b₆ = and_true _ _ t₃.0 in
      let b₅ = and_true _ _ b₆.0 in
      let b₄ = and_true _ _ b₅.0 in
      let b₃ = and_true _ _ b₄.0 in
      let b₂ = and_true _ _ b₃.0 in
      let b₁ = and_true _ _ b₂.0 in
      subst (Abut file) (answered_inj t₄.1) (record {
        bounds = record {
          symbols-some = leb-true _ _ b₁.0;
          symbols-most = leb-true _ _ b₁.1;
          strings-most = leb-true _ _ b₂.1;
          numbers-most = leb-true _ _ b₃.1;
          automata-most = leb-true _ _ b₄.1;
          constraints-most = leb-true _ _ b₅.1;
        };
        table-size = ap length at.0 ∙ part_length 0 (8 * table_words h) file (omega arith);
        constraints-size = ap length at.1 ∙ part_length (8 * table_words h) (4 * h.constraints) file (omega arith);
        whole = three-parts file (8 * table_words h) (4 * h.constraints) h.automata_back (length file - 24) n
            ∙ sym (ap₂ (λ (x y : List ℕ). x ++ y) at.0 (ap₂ (λ (x y : List ℕ). x ++ y) at.1 (ap (λ (x : List ℕ). x ++ drop (length file - 24) file) at.2)));
      })
