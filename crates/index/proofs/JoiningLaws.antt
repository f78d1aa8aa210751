-- An index with the bits of a word joined in at one place, or at several, one after the other. Assumes nothing.
use mathlib.Core.Path.{◌≡◌, refl, sym, ap, subst, ◌∙◌}
use mathlib.Core.Logic.{◌⊎◌, inl, inr, ⊎_elim}
use mathlib.Core.Bool.{Bool, true, false}
use mathlib.Core.List.Memᴰ
use mathlib.Core.List.{List, [], ◌∷◌, ◌++◌}
use Prim.Native.Nat.{ℕ, ◌+◌, ◌<◌}
use lib.Bits.{bit_or}
use lib.Dec.{eqb}
use lib.ListN.{length, get_or, take, set}
use lib.Seq.{get_or-set_same, get_or-set_other}
use borrow.Author.Tests.{eqb-true, eqb-false}
use Rattle.model.specs.Words.{bit, word}
use Rattle.laws.specs.Inclusion.{In}
use Rattle.laws.proofs.WordLaws.{or-bit-left, or-bit-right, of-or-bit}
use Rattle.steps.proofs.TidyLaws.{take_next}
use Rattle.index.specs.Joining.{Joined}

-- joined in at one place
module _ (ix : List ℕ) (i b : ℕ) (l : i < length ix) where
  abbrev jx : List ℕ
  jx = set ix i (bit_or (word ix i) b)

  there : word jx i ≡ bit_or (word ix i) b
  there = get_or-set_same ix i (bit_or (word ix i) b) 0 l

  elsewhere : (j : ℕ) → eqb j i ≡ false → word jx j ≡ word ix j
  elsewhere j q = get_or-set_other ix i j (bit_or (word ix i) b) 0 (eqb-false j i q)

  stays : (j k : ℕ) → bit (word ix j) k ≡ true → bit (word jx j) k ≡ true
  stays j k e = go (eqb j i) refl
    where
      go : (t : Bool) → eqb j i ≡ t → bit (word jx j) k ≡ true
      go true q =
          let s : j ≡ i = eqb-true j i q in
          let f : bit (word ix i) k ≡ true = subst (λ (n : ℕ). bit (word ix n) k ≡ true) s e in
          subst (λ (n : ℕ). bit (word jx n) k ≡ true) (sym s) (ap (λ (w : ℕ). bit w k) there ∙ or-bit-left (word ix i) b k f)
      go false q = ap (λ (w : ℕ). bit w k) (elsewhere j q) ∙ e

  comes : (j k : ℕ) → bit (word jx j) k ≡ true → (bit (word ix j) k ≡ true) ⊎ (In j (i ∷ []) × (bit b k ≡ true))
  comes j k e = go (eqb j i) refl
    where
      go : (t : Bool) → eqb j i ≡ t → (bit (word ix j) k ≡ true) ⊎ (In j (i ∷ []) × (bit b k ≡ true))
      go true q =
          let s : j ≡ i = eqb-true j i q in
          let f : bit (word jx i) k ≡ true = subst (λ (n : ℕ). bit (word jx n) k ≡ true) s e in
          ⊎_elim (λ old. inl (subst (λ (n : ℕ). bit (word ix n) k ≡ true) (sym s) old)) (λ new. inr (Memᴰ.head s, new))
          (of-or-bit (word ix i) b k (ap (λ (w : ℕ). bit w k) (sym there) ∙ f))
      go false q = inl (ap (λ (w : ℕ). bit w k) (sym (elsewhere j q)) ∙ e)

  pub joined-one : Joined (i ∷ []) b ix jx
  joined-one = record {
    kept = stays;
    joined = λ j m k e. subst (λ (n : ℕ). bit (word jx n) k ≡ true) (sym (Memᴰ.eq_of_singleton m))
        (ap (λ (w : ℕ). bit w k) there ∙ or-bit-right (word ix i) b k e);
    only = comes;
  }

-- first at these positions, then at those
pub joined-more : (is js : List ℕ) (b : ℕ) (ix jx kx : List ℕ) → Joined is b ix jx → Joined js b jx kx → Joined (is ++ js) b ix kx
joined-more is js b ix jx kx p q = record {
  kept = λ i k e. q.kept i k (p.kept i k e);
  joined = λ i m k e. ⊎_elim (λ l. q.kept i k (p.joined i l k e)) (λ r. q.joined i r k e) (Memᴰ.append_cases is m);
  only = λ i k e. ⊎_elim (λ l. ⊎_elim (λ old. inl old) (λ new. inr (Memᴰ.append_left js new.0, new.1)) (p.only i k l))
      (λ r. inr (Memᴰ.append_right is r.0, r.1)) (q.only i k e);
}

-- at one position more of a list
pub joined_next : (is : List ℕ) (j b : ℕ) (ix jx : List ℕ) → j < length is → get_or is j 0 < length jx → Joined (take j is) b ix jx
    → Joined (take (j + 1) is) b ix (set jx (get_or is j 0) (bit_or (word jx (get_or is j 0)) b))
joined_next is j b ix jx l h p =
    rw (take_next is j l) (joined-more (take j is) (get_or is j 0 ∷ []) b ix jx _ p (joined-one jx (get_or is j 0) b h))
