-- The steps that join the queue, as the bits of two words: those of the index for the variables of the step that was run, without those that wait. Assumes nothing.
use mathlib.Core.Path.{◌≡◌, refl, sym, ap, subst, ◌∙◌}
use mathlib.Core.Bool.{Bool, true, false, cond, not, ◌&&◌, ◌||◌}
use mathlib.Core.List.Memᴰ
use mathlib.Core.List.{List, [], ◌∷◌, ◌++◌, map, append-nil}
use Prim.Native.Nat.{ℕ, zero, suc, ◌+◌, ◌-◌, ◌*◌, ◌^◌, ◌≤◌, ◌<◌}
use native.Mathlib.Omega.{arith}
use lib.Bits.{bit_and}
use lib.Dec.{eqb, ltb}
use borrow.Author.Tests.{ltb-true, lt-ltb, le-ltb}
use Rattle.model.specs.Lists.{any, select, from, upto}
use Rattle.model.specs.Words.{bit, bits, word, union}
use Rattle.model.specs.Domains.{Variable}
use Rattle.model.specs.Constraints.{Problem, variables}
use Rattle.model.specs.Solutions.{InRange, WellFormed}
use Rattle.model.specs.Operations.{step_at, step_count}
use Rattle.model.specs.StepIndex.{step_touches, touching, word_from, index_of}
use Rattle.model.specs.Queue.{sharing, joining}
use Rattle.laws.specs.Inclusion.{In}
use Rattle.laws.specs.Line.{waits}
use Rattle.laws.proofs.ListLaws.{of-any, in_any, of-from, from-append, and_true, true_and}
use Rattle.laws.proofs.WordLaws.{bool_ext, bit-union}
use Rattle.laws.proofs.BitsLaws.{select-same}
use Rattle.laws.proofs.ShiftLaws.{without-bit}
use Rattle.laws.proofs.StepNumberLaws.{step_in}
use Rattle.laws.proofs.StepIndexLaws.{of-word_from, in_word_from, of-step_touches, in_step_touches, of-touching, in_touching}
use Rattle.shortcuts.proofs.WaitLaws.{ranged-step}
use Rattle.index.specs.Index.{position}
use Rattle.index.proofs.LentLaws.{lent_at}
use Rattle.index.specs.declared.Positions.{Positions}
use Rattle.index.specs.Standing.{listed}
use Rattle.queue.specs.Ring.{Places}

-- ---- a test on the numbers below n, at most 128 of them, as two words

select-append : (f : ℕ → Bool) (xs ys : List ℕ) → select f (xs ++ ys) ≡ select f xs ++ select f ys
unfolding select
select-append f [] ys = refl
select-append f (x ∷ xs) ys = go (f x) (select-append f xs ys)
  where
    go : (t : Bool) → select f (xs ++ ys) ≡ select f xs ++ select f ys
        → cond t (x ∷ select f (xs ++ ys)) (select f (xs ++ ys)) ≡ cond t (x ∷ select f xs) (select f xs) ++ select f ys
    go true e = ap (λ (l : List ℕ). x ∷ l) e
    go false e = e

select-none : (f : ℕ → Bool) (xs : List ℕ) → ((x : ℕ) → In x xs → f x ≡ false) → select f xs ≡ []
unfolding select
select-none f [] h = refl
select-none f (x ∷ xs) h = rw (h x (Memᴰ.head refl)) (select-none f xs (λ y m. h y (Memᴰ.tail m)))

-- the numbers from k + i on are those from i on, moved by k
select-moved : (f : ℕ → Bool) (k i n : ℕ) → select f (from (k + i) n) ≡ map (λ b. k + b) (select (λ b. f (k + b)) (from i n))
unfolding select from
select-moved f k i zero = refl
select-moved f k i (suc n) = go (f (k + i)) (ap (λ (m : ℕ). select f (from m n)) (omega arith) ∙ select-moved f k (suc i) n)
  where
    go : (t : Bool) → select f (from (suc (k + i)) n) ≡ map (λ b. k + b) (select (λ b. f (k + b)) (from (suc i) n))
        → cond t ((k + i) ∷ select f (from (suc (k + i)) n)) (select f (from (suc (k + i)) n))
        ≡ map (λ b. k + b) (cond t (i ∷ select (λ b. f (k + b)) (from (suc i) n)) (select (λ b. f (k + b)) (from (suc i) n)))
    go true e = ap (λ (l : List ℕ). (k + i) ∷ l) e
    go false e = e

module _ (f : ℕ → Bool) (n : ℕ) (few : n ≤ 128) (low high : ℕ)
    (lows : (b : ℕ) → b < 64 → bit low b ≡ (ltb b n && f b)) (highs : (b : ℕ) → b < 64 → bit high b ≡ (ltb (64 + b) n && f (64 + b))) where
  abbrev inside : ℕ → Bool
  inside b = ltb b n && f b

  -- past n there are none
  extended : select f (upto n) ≡ select inside (from 0 128)
  unfolding upto
  extended =
      let here : select f (from 0 n) ≡ select inside (from 0 n) =
      select-same f inside (from 0 n) (λ x m. ap (λ (t : Bool). t && f x) (sym (lt-ltb x n (omega (arith, (of-from 0 n m).1))))) in
      let past : select inside (from (0 + n) (128 - n)) ≡ [] =
      select-none inside (from (0 + n) (128 - n)) (λ x m. ap (λ (t : Bool). t && f x) (le-ltb x n (omega (arith, (of-from (0 + n) (128 - n) m).0)))) in
      let sum : n + (128 - n) ≡ 128 = omega arith in
      here ∙ sym (append-nil (select inside (from 0 n))) ∙ ap (λ (l : List ℕ). select inside (from 0 n) ++ l) (sym past)
      ∙ sym (select-append inside (from 0 n) (from (0 + n) (128 - n))) ∙ ap (select inside) (from-append 0 n (128 - n)) ∙ ap (λ (m : ℕ). select inside (from 0 m)) sum

  pub two-words : select f (upto n) ≡ bits low ++ map (λ b. 64 + b) (bits high)
  unfolding bits upto
  two-words =
      let lower : select inside (from 0 64) ≡ select (bit low) (from 0 64) =
      select-same inside (bit low) (from 0 64) (λ b m. sym (lows b (omega (arith, (of-from 0 64 m).1)))) in
      let upper : select (λ b. inside (64 + b)) (from 0 64) ≡ select (bit high) (from 0 64) =
      select-same (λ b. inside (64 + b)) (bit high) (from 0 64) (λ b m. sym (highs b (omega (arith, (of-from 0 64 m).1)))) in
      extended ∙ ap (select inside) (sym (from-append 0 64 64)) ∙ select-append inside (from 0 64) (from (0 + 64) 64)
      ∙ ap (λ (l : List ℕ). l ++ select inside (from 64 64)) lower
      ∙ ap (λ (l : List ℕ). select (bit low) (from 0 64) ++ l) (select-moved inside 64 0 64 ∙ ap (map (λ b. 64 + b)) upper)

-- ---- the steps that share a variable, by the index

module _ (P : Problem) (wf : WellFormed P) (j : ℕ) (less : j < step_count P) where
  ranged : (v : Variable) → In v (variables (step_at P j)) → InRange P v
  ranged v m = ranged-step P wf (step_at P j) (step_in P j less) v m

  module _ (m : Positions) (at : Places P j m) (h : ℕ) (l : h < 2) (w : ℕ) (e : w ≡ union (map (λ i. word (index_of P) (2 * i + h)) (listed m))) where
    abbrev word_of : ℕ → ℕ
    word_of i = word (index_of P) (2 * i + h)

    -- a bit of the union is one of a variable's word
    of_shared : (b : ℕ) → bit w b ≡ true → (b < 64) × (64 * h + b < step_count P) × (sharing P (64 * h + b) j ≡ true)
    unfolding sharing
    of_shared b q =
        let u = of-any (λ x. bit x b) (map word_of (listed m)) (sym (bit-union (map word_of (listed m)) b) ∙ ap (λ (x : ℕ). bit x b) (sym e) ∙ q) in
        let i = Memᴰ.of_map word_of (listed m) u.1 in
        let v = Memᴰ.of_map (position P.strings) (variables (step_at P j)) (subst (In i.0) at.are i.1) in
        let s : word_of i.0 ≡ word_from (64 * h) (touching P v.0) = ap word_of (sym v.2) ∙ lent_at P v.0 (ranged v.0 v.1) h l in
        let t = of-word_from (64 * h) (touching P v.0) b (ap (λ (x : ℕ). bit x b) (sym s ∙ i.2) ∙ u.2) in
        let k = of-touching P v.0 (64 * h + b) t.1 in
        (t.0, k.0, in_any (step_touches P j) k.1 (in_step_touches P j v.0 v.1))

    in_shared : (b : ℕ) → b < 64 → 64 * h + b < step_count P → sharing P (64 * h + b) j ≡ true → bit w b ≡ true
    unfolding sharing
    in_shared b lb lj q =
        let u = of-any (step_touches P j) (variables (step_at P (64 * h + b))) q in
        let v : Variable = u.0 in
        let n : In v (variables (step_at P j)) = of-step_touches P j v u.2 in
        let there : bit (word_of (position P.strings v)) b ≡ true =
        ap (λ (x : ℕ). bit x b) (lent_at P v (ranged v n) h l) ∙ in_word_from (64 * h) (touching P v) b lb (in_touching P v (64 * h + b) lj u.1) in
        let listed-there : In (position P.strings v) (listed m) = subst (In (position P.strings v)) (sym at.are) (Memᴰ.map (position P.strings) n) in
        ap (λ (x : ℕ). bit x b) e ∙ bit-union (map word_of (listed m)) b ∙ in_any (λ x. bit x b) (Memᴰ.map word_of listed-there) there

    shared_bit : (b : ℕ) → b < 64 → bit w b ≡ (ltb (64 * h + b) (step_count P) && sharing P (64 * h + b) j)
    shared_bit b lb = bool_ext (bit w b) (ltb (64 * h + b) (step_count P) && sharing P (64 * h + b) j)
        (λ q. let t = of_shared b q in true_and (lt-ltb (64 * h + b) (step_count P) t.1) t.2)
        (λ q. let t = and_true (ltb (64 * h + b) (step_count P)) (sharing P (64 * h + b) j) q in in_shared b lb (ltb-true (64 * h + b) (step_count P) t.0) t.1)

    -- without those that wait, j among them
    pub joins_bit : (q : List ℕ) (v r : ℕ) → v < 2 ^ 64 → r ≡ bit_and w (2 ^ 64 - 1 - v) → ((b : ℕ) → b < 64 → bit v b ≡ waits (j ∷ q) (64 * h + b))
        → (b : ℕ) → b < 64
        → bit r b ≡ (ltb (64 * h + b) (step_count P) && (not (eqb (64 * h + b) j) && sharing P (64 * h + b) j && not (waits q (64 * h + b))))
    unfolding any
    joins_bit q v r fits s ws b lb =
        ap (λ (x : ℕ). bit x b) s ∙ without-bit w v b fits lb ∙ ap (λ (t : Bool). t && not (bit v b)) (shared_bit b lb)
        ∙ ap (λ (t : Bool). (ltb (64 * h + b) (step_count P) && sharing P (64 * h + b) j) && not t) (ws b lb)
        ∙ shuffle (ltb (64 * h + b) (step_count P)) (sharing P (64 * h + b) j) (eqb (64 * h + b) j) (waits q (64 * h + b))
      where
        shuffle : (a c e f : Bool) → ((a && c) && not (e || f)) ≡ (a && (not e && c && not f))
        shuffle false c e f = refl
        shuffle true false true f = refl
        shuffle true false false f = refl
        shuffle true true true f = refl
        shuffle true true false f = refl

-- ---- the steps that join are the bits of two words

pub joining-words : (P : Problem) (j : ℕ) (q : List ℕ) (low high : ℕ) → step_count P ≤ 128
    → ((b : ℕ) → b < 64 → bit low b ≡ (ltb (64 * 0 + b) (step_count P) && (not (eqb (64 * 0 + b) j) && sharing P (64 * 0 + b) j && not (waits q (64 * 0 + b)))))
    → ((b : ℕ) → b < 64 → bit high b ≡ (ltb (64 * 1 + b) (step_count P) && (not (eqb (64 * 1 + b) j) && sharing P (64 * 1 + b) j && not (waits q (64 * 1 + b)))))
    → joining P j q ≡ bits low ++ map (λ b. 64 + b) (bits high)
unfolding joining
joining-words P j q low high few lows highs =
    two-words (λ i. not (eqb i j) && sharing P i j && not (waits q i)) (step_count P) few low high
    (λ b l. lows b l ∙ ap (λ (i : ℕ). ltb i (step_count P) && (not (eqb i j) && sharing P i j && not (waits q i))) (omega arith)) (λ b l. highs b l)
