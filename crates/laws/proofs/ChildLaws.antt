-- Laws of a table with only one bit left in one word, as the children of a node are: its order, its size, and what settling makes of it. Assumes nothing.
use mathlib.Core.Path.{◌≡◌, refl, sym, ap, ap₂, subst, ◌∙◌}
use mathlib.Core.Logic.{◌≢◌}
use mathlib.Core.Bool.{Bool, true, false}
use mathlib.Core.List.{List}
use Prim.Native.Nat.{ℕ, suc, ◌^◌, ◌≤◌, ◌<◌}
use native.Mathlib.Omega.{arith}
use lib.Dec.{leb, eqb}
use lib.ListN.{length, set, length-set}
use lib.Seq.{get_or-set_same, get_or-set_other}
use borrow.Author.Tests.{leb-true, leb-false, eqb-true, eqb-false, eq-eqb}
use Rattle.model.specs.Words.{bit, bits, word, Words, size}
use Rattle.model.specs.Constraints.{Problem}
use Rattle.model.specs.Rounds.{settled}
use Rattle.laws.specs.Inclusion.{Within, Single, Below}
use Rattle.laws.proofs.WordLaws.{pow-bit, pow-only, of-bits}
use Rattle.laws.proofs.BitsLaws.{bits_increasing, few, pow-single}
use Rattle.laws.proofs.TableLaws.{below_trans, below_antisym, below-of-eq, below-words, size-eq, word-size_le}
use Rattle.laws.proofs.RoundLaws.{settled-below, settled-above, settled-stable, settled-mono}

module _ (S : List ℕ) (at b : ℕ) (h : at < length S) where
  abbrev pub child : List ℕ
  child = set S at (2 ^ b)

  pub child-here : word child at ≡ 2 ^ b
  child-here = get_or-set_same S at (2 ^ b) 0 h

  pub child-other : (i : ℕ) → i ≢ at → word child i ≡ word S i
  child-other i n = get_or-set_other S at i (2 ^ b) 0 n

  pub child-below : bit (word S at) b ≡ true → Below child S
  child-below m = record { same_length = length-set S at (2 ^ b); within = λ i. go i (eqb i at) refl }
    where
      go : (i : ℕ) (t : Bool) → eqb i at ≡ t → Within (word child i) (word S i)
      go i true e c q =
          let p = eqb-true i at e in
          let r : c ≡ b = pow-only b c (ap (λ (w : ℕ). bit w c) (sym (ap (word child) p ∙ child-here)) ∙ q) in
          ap₂ (λ (x y : ℕ). bit (word S x) y) p r ∙ m
      go i false e c q = ap (λ (w : ℕ). bit w c) (sym (child-other i (eqb-false i at e))) ∙ q

  -- what is below S and has at most b there is below the child
  pub below-child : (W : List ℕ) → Below W S → ((c : ℕ) → bit (word W at) c ≡ true → c ≡ b) → Below W child
  below-child W p o = record { same_length = p.same_length ∙ sym (length-set S at (2 ^ b)); within = λ i. go i (eqb i at) refl }
    where
      go : (i : ℕ) (t : Bool) → eqb i at ≡ t → Within (word W i) (word child i)
      go i true e c q =
          let r = eqb-true i at e in
          let s : c ≡ b = o c (ap (λ (x : ℕ). bit (word W x) c) (sym r) ∙ q) in
          ap (λ (w : ℕ). bit w c) (ap (word child) r ∙ child-here) ∙ pow-bit b c ∙ eq-eqb b c (sym s)
      go i false e c q = ap (λ (w : ℕ). bit w c) (child-other i (eqb-false i at e)) ∙ p.within i c q

  -- a child of a word with several bits has fewer bits
  pub child-size : Words S → bit (word S at) b ≡ true → 2 ≤ length (bits (word S at)) → size child < size S
  child-size bd m sv = go (leb (size S) (size child)) refl
    where
      go : (t : Bool) → leb (size S) (size child) ≡ t → size child < size S
      go true e =
          let back : Below S child = size-eq child S (child-below m) bd (leb-true (size S) (size child) e) in
          let f = few b (bits (word S at)) (bits_increasing (word S at)) (λ c n. pow-only b c (ap (λ (w : ℕ). bit w c) (sym child-here) ∙ back.within at c (of-bits (word S at) n).0)) in
          -- with no bit lost, every bit of the word would be b
          absurd (omega arith)
      go false e = leb-false (size S) (size child) e

-- ---- settling after a restriction: from the restricted start as from the restricted settled table
pub settle-restricted : (P : Problem) (T : List ℕ) (at b : ℕ) → Words T → at < length T → bit (word T at) b ≡ true
    → settled P (set (settled P T) at (2 ^ b)) ≡ settled P (set T at (2 ^ b))
settle-restricted P T at b bd h m =
    let S : List ℕ = settled P T in
    let below : Below S T = settled-below P T in
    let hS : at < length S = subst (λ (n : ℕ). at < n) (sym below.same_length) h in
    let one : Below (child S at b hS) (child T at b h) = mono S below hS in
    let bT : Words (child T at b h) = below-words (child-below T at b h m) bd in
    let W : List ℕ = settled P (child T at b h) in
    let w : Below W (child T at b h) = settled-below P (child T at b h) in
    let wS : Below W S = settled-above P W T (settled-stable P (child T at b h) bT) (below_trans w (child-below T at b h m)) in
    let wc : Below W (child S at b hS) = below-child S at b hS W wS (λ c q. pow-only b c (ap (λ (x : ℕ). bit x c) (sym (child-here T at b h)) ∙ w.within at c q)) in
    below_antisym (settled-mono P (child S at b hS) (child T at b h) (below-words one bT) one) (settled-above P W (child S at b hS) (settled-stable P (child T at b h) bT) wc)
  where
    mono : (S : List ℕ) → Below S T → (hS : at < length S) → Below (child S at b hS) (child T at b h)
    mono S p hS = record { same_length = length-set S at (2 ^ b) ∙ p.same_length ∙ sym (length-set T at (2 ^ b)); within = λ i. go i (eqb i at) refl }
      where
        go : (i : ℕ) (t : Bool) → eqb i at ≡ t → Within (word (child S at b hS) i) (word (child T at b h) i)
        go i true e c q =
            let r = eqb-true i at e in
            ap (λ (w : ℕ). bit w c) (ap (word (child T at b h)) r ∙ child-here T at b h ∙ sym (child-here S at b hS) ∙ sym (ap (word (child S at b hS)) r)) ∙ q
        go i false e c q =
            let n = eqb-false i at e in
            ap (λ (w : ℕ). bit w c) (child-other T at b h i n) ∙ p.within i c (ap (λ (w : ℕ). bit w c) (sym (child-other S at b hS i n)) ∙ q)

-- ---- along a path the branch words go upwards: up to the word of a child, nothing below the child has several bits
pub child-later : (S N : List ℕ) (at b : ℕ) → at < length S → ((j : ℕ) → j < at → Single (word S j)) → Below N (set S at (2 ^ b)) → (j : ℕ) → j < suc at → Single (word N j)
child-later S N at b h bf p j l = go (eqb j at) refl
  where
    go : (t : Bool) → eqb j at ≡ t → Single (word N j)
    go true e =
        let r = eqb-true j at e in
        let a : Within (word N j) (2 ^ b) = λ c q. ap (λ (w : ℕ). bit w c) (sym (ap (word (set S at (2 ^ b))) r ∙ child-here S at b h)) ∙ p.within j c q in
        let z = word-size_le (word N j) (2 ^ b) a in
        let o = pow-single b in
        omega arith
    go false e =
        let n = eqb-false j at e in
        let a : Within (word N j) (word S j) = λ c q. ap (λ (w : ℕ). bit w c) (sym (child-other S at b h j n)) ∙ p.within j c q in
        let z = word-size_le (word N j) (word S j) a in
        let o = bf j (omega arith) in
        omega arith

-- the same for the settled tables: a table whose word `at` is cut to one bit, with nothing left to branch on before it
pub cut-single : (P : Problem) (T : List ℕ) (at b : ℕ) → Words T → at < length T → bit (word T at) b ≡ true → ((j : ℕ) → j < at → Single (word (settled P T) j))
    → (j : ℕ) → j < suc at → Single (word (settled P (set T at (2 ^ b))) j)
cut-single P T at b bd h m bf =
    let S : List ℕ = settled P T in
    let hS : at < length S = subst (λ (n : ℕ). at < n) (sym (settled-below P T).same_length) h in
    let e : settled P (set S at (2 ^ b)) ≡ settled P (set T at (2 ^ b)) = settle-restricted P T at b bd h m in
    child-later S (settled P (set T at (2 ^ b))) at b hS bf (below_trans (below-of-eq (sym e)) (settled-below P (set S at (2 ^ b))))
