-- The turns of the loops over places and over starts. Assumes nothing.
use mathlib.Core.Path.{◌≡◌, refl, sym, ap, subst, ◌∙◌}
use mathlib.Core.Logic.{◌⊎◌, inl, inr, ⊎_elim, ◌≢◌}
use mathlib.Core.Bool.{Bool, true, false, not, ◌||◌, false≢true}
use mathlib.Core.List.{List}
use Prim.Native.Nat.{ℕ, suc, ◌+◌, ◌-◌, ◌/◌, ◌^◌, ◌≤◌, ◌<◌}
use native.Mathlib.Nat.{le_of_suc-le-suc, eq-or-lt_of_le}
use native.Mathlib.Omega.{arith}
use lib.Bits.{bit_or}
use lib.Dec.{eqb}
use lib.ListN.{length, set, length-set}
use lib.Seq.{get_or-set_same, get_or-set_other}
use borrow.Author.Tests.{eqb-true, eqb-false}
use Rattle.model.specs.Words.{bit, word}
use Rattle.words.specs.Ends.{Lowest}
use Rattle.laws.proofs.ListLaws.{true_and, or_false, or_true, not_false, not_true}
use Rattle.laws.proofs.WordLaws.{zero_bit, bit-suc, bit-sub, sub_within, or-bit-left, or-bit-right, of-or-bit}
use Rattle.inplace.specs.InTable.{both}
use Rattle.inplace.specs.Adding.{Added}
use Rattle.sub.specs.Substrings.{Over, Written}

-- ---- a word without its lowest bit

pub rest_out : (rest a : ℕ) → bit rest a ≡ true → (i : ℕ) → bit (rest - 2 ^ a) i ≡ false → (i ≡ a) ⊎ (bit rest i ≡ false)
rest_out rest a here i h = go (eqb a i) refl (bit rest i) refl
  where
    go : (t : Bool) → eqb a i ≡ t → (s : Bool) → bit rest i ≡ s → (i ≡ a) ⊎ (bit rest i ≡ false)
    go true q s p = inl (sym (eqb-true a i q))
    go false q true p = absurd (false≢true (sym h ∙ bit-sub rest a i here ∙ true_and p (ap not q)))
    go false q false p = inr p

-- ---- what the starts lay over a place

module _ (T : List ℕ) (b n i : ℕ) where
  pub over-start : Over T b n i (n / 2 ^ 1) 0
  over-start = record {
    sound = λ a e. absurd (false≢true (sym (zero_bit a) ∙ e));
    complete = λ off a p q e. absurd (false≢true (sym q ∙ sym (bit-suc n off) ∙ p));
    coming = λ off e. bit-suc n off ∙ e;
  }

  pub over-turn : (rest w off v : ℕ) → Over T b n i rest w → Lowest rest off → v ≡ word T (b + (i - off) + 1)
      → Over T b n i (rest - 2 ^ off) (bit_or w v)
  over-turn rest w off v g low ev =
      let d : b + (i - off) + 1 ≡ suc (b + (i - off)) = omega arith in
      let ew : v ≡ word T (suc (b + (i - off))) = ev ∙ ap (word T) d in
      record {
        sound = λ a h. ⊎_elim (λ k. g.sound a k) (λ k. (off, g.coming off low.here, ap (λ (u : ℕ). bit u a) (sym ew) ∙ k)) (of-or-bit w v a h);
        complete = λ z a p q h. ⊎_elim
            (λ k. or-bit-right w v a (ap (λ (u : ℕ). bit u a) ew ∙ subst (λ (u : ℕ). bit (word T (suc (b + (i - u)))) a ≡ true) k h))
            (λ k. or-bit-left w v a (g.complete z a p k h))
            (rest_out rest off low.here z q);
        coming = λ z h. g.coming z (sub_within rest off low.here z h);
      }

-- ---- lengths and places added to a row

-- s is the row r with these lengths more, and up to end with what the places after a and after b allow together
pub record Joined (T : List ℕ) (a b ls end : ℕ) (r s : List ℕ) : Type 0 where
  pub size : length s ≡ length r
  pub first : word s 0 ≡ bit_or (word r 0) ls
  pub inside : (i : ℕ) → i < end → word s (suc i) ≡ bit_or (word r (suc i)) (both T a b i)
  pub kept : (i : ℕ) → end ≤ i → word s (suc i) ≡ word r (suc i)

pub joined : (T : List ℕ) (a b ls end : ℕ) (r s : List ℕ) → 0 < length r → Added (set r 0 (bit_or (word r 0) ls)) 0 T a b end s → Joined T a b ls end r s
joined T a b ls end r s h g =
    let w : ℕ = bit_or (word r 0) ls in
    let old : (j : ℕ) → word (set r 0 w) (suc j) ≡ word r (suc j) = λ j. get_or-set_other r 0 (suc j) w 0 (omega arith) in
    record {
      size = g.size ∙ length-set r 0 w;
      first = g.first ∙ get_or-set_same r 0 w 0 h;
      inside = λ j l.
          let e : 0 + j ≡ j = omega arith in
          subst (λ (k : ℕ). word s (suc k) ≡ bit_or (word (set r 0 w) (suc k)) (both T a b j)) e (g.done j l) ∙ ap (λ (u : ℕ). bit_or u (both T a b j)) (old j);
      kept = λ j l. g.after j (omega arith) ∙ old j;
    }

-- ---- places written

module _ (Right : ℕ → ℕ → Type 0) (T : List ℕ) (a from to : ℕ) where
  pub write-start : Written Right T a from to from T false
  write-start = record {
    size = refl;
    done = λ j p q. absurd (omega arith);
    kept = λ k f. refl;
    flag = record { same = λ e i h. refl; differ = λ e. absurd (false≢true e) };
  }

  module _ (i : ℕ) (U : List ℕ) (c : Bool) (g : Written Right T a from to i U c) (begun : from ≤ i) (h : i < to) where
    -- the next word is as it was
    pub write-next : word U (a + i + 1) ≡ word T (suc (a + i))
    write-next =
        let e : a + i + 1 ≡ suc (a + i) = omega arith in
        ap (word U) e ∙ g.kept (suc (a + i)) (λ j p q r d. omega arith)

    module _ (w : ℕ) (right : Right i w) (fits : suc (a + i) < length T) (p : Bool) (ep : p ≡ not (eqb (word T (suc (a + i))) w)) where
      here : word (set U (suc (a + i)) w) (suc (a + i)) ≡ w
      here = let s = g.size in get_or-set_same U (suc (a + i)) w 0 (omega arith)

      other : (j : ℕ) → j ≢ i → word (set U (suc (a + i)) w) (suc (a + j)) ≡ word U (suc (a + j))
      other j n = get_or-set_other U (suc (a + i)) (suc (a + j)) w 0 (λ q. n (omega arith))

      same : (c || p) ≡ false → (j : ℕ) → j < to → word (set U (suc (a + i)) w) (suc (a + j)) ≡ word T (suc (a + j))
      same q j k = go (eqb j i) refl
        where
          go : (t : Bool) → eqb j i ≡ t → word (set U (suc (a + i)) w) (suc (a + j)) ≡ word T (suc (a + j))
          go true r = subst (λ (z : ℕ). word (set U (suc (a + i)) w) (suc (a + z)) ≡ word T (suc (a + z))) (sym (eqb-true j i r))
              (here ∙ sym (eqb-true (word T (suc (a + i))) w (not_false (eqb (word T (suc (a + i))) w) (sym ep ∙ (or_false c p q).1))))
          go false r = other j (eqb-false j i r) ∙ g.flag.same (or_false c p q).0 j k

      differ : (c || p) ≡ true → (j : ℕ) × (j < to) × (word (set U (suc (a + i)) w) (suc (a + j)) ≢ word T (suc (a + j)))
      differ q = ⊎_elim
          (λ k. let z = g.flag.differ k in (z.0, z.1, λ r. go z.0 z.2 r (eqb z.0 i) refl))
          (λ k. (i, h, λ r. eqb-false (word T (suc (a + i))) w (not_true (eqb (word T (suc (a + i))) w) (sym ep ∙ k)) (sym r ∙ here)))
          (or_true c p q)
        where
          go : (j : ℕ) → word U (suc (a + j)) ≢ word T (suc (a + j)) → word (set U (suc (a + i)) w) (suc (a + j)) ≡ word T (suc (a + j)) → (t : Bool)
              → eqb j i ≡ t → ⊥
          go j n r true q =
              let e = eqb-true j i q in
              n (subst (λ (z : ℕ). word U (suc (a + z)) ≡ word T (suc (a + z))) (sym e) (g.kept (suc (a + i)) (λ j p q r d. omega arith)))
          go j n r false q = n (sym (other j (eqb-false j i q)) ∙ r)

      write_step : Written Right T a from to (suc i) (set U (suc (a + i)) w) (c || p)
      write_step = record {
        size = length-set U (suc (a + i)) w ∙ g.size;
        done = λ j q k. ⊎_elim
            (λ r. subst (λ (z : ℕ). Right z (word (set U (suc (a + i)) w) (suc (a + z)))) (sym r) (subst (Right i) (sym here) right))
            (λ r. subst (Right j) (sym (other j (omega arith))) (g.done j q r))
            (eq-or-lt_of_le (le_of_suc-le-suc k));
        kept = λ k f. get_or-set_other U (suc (a + i)) k w 0 (f i begun (omega arith) h) ∙ g.kept k (λ j q r s. f j q (omega arith) s);
        flag = record { same = same; differ = differ };
      }

    pub write-turn : a + i + 1 < length T → (w : ℕ) → Right i w → (U₁ : List ℕ) (p d : Bool)
        → (U₁ ≡ set U (a + i + 1) w) × (p ≡ not (eqb (word U (a + i + 1)) w)) → d ≡ (c || p) → Written Right T a from to (i + 1) U₁ d
    write-turn l w right U₁ p d put ed =
        let e : a + i + 1 ≡ suc (a + i) = omega arith in
        let f : i + 1 ≡ suc i = omega arith in
        let ep : p ≡ not (eqb (word T (suc (a + i))) w) = put.1 ∙ ap (λ (v : ℕ). not (eqb v w)) write-next in
        let eU : U₁ ≡ set U (suc (a + i)) w = put.0 ∙ ap (λ (k : ℕ). set U k w) e in
        rw (ed, f, eU) (write_step w right (omega arith) p ep)

  pub write-end : (i : ℕ) (U : List ℕ) (c : Bool) → to ≤ i → Written Right T a from to i U c → Written Right T a from to to U c
  write-end i U c h g = record { size = g.size; done = λ j p q. g.done j p (omega arith); kept = λ k f. g.kept k (λ j p q r. f j p r r); flag = g.flag }
