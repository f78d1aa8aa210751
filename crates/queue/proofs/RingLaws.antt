-- Laws of the ring: what it holds as numbers are written into it and taken out of it. Assumes nothing.
use mathlib.Core.Path.{◌≡◌, refl, sym, ap, subst, ◌∙◌}
use mathlib.Core.Logic.{◌≢◌}
use mathlib.Core.Bool.{Bool, true, false}
use mathlib.Core.List.{List, [], ◌∷◌, ◌++◌, map, map-append, append_assoc, append-nil}
use Prim.Native.Nat.{ℕ, zero, suc, ◌+◌, ◌-◌, ◌%◌, ◌^◌, ◌≤◌, ◌<◌}
use native.Mathlib.Omega.{arith}
use lib.Dec.{eqb}
use lib.ListN.{length, get_or, set, length-set, length-append}
use lib.Seq.{get_or-set_same, get_or-set_other}
use borrow.Author.Tests.{eqb-true, eqb-false}
use Rattle.model.specs.Lists.{from, upto}
use Rattle.model.specs.Words.{bits}
use Rattle.laws.proofs.BitsLaws.{bits-lowest}
use Rattle.laws.proofs.WordLaws.{zero_bits}
use Rattle.laws.proofs.TableLaws.{bits_most}
use Rattle.words.specs.Ends.{Lowest}
use Rattle.queue.specs.declared.Queue.{Queue}
use Rattle.queue.specs.Ring.{held, Filled, Appended}

-- ---- places of the ring

held-last : (R : List ℕ) (i n : ℕ) → held R i (suc n) ≡ held R i n ++ (get_or R ((i + n) % 128) 0 ∷ [])
unfolding held
held-last R i zero = let e : i ≡ i + 0 = omega arith in ap (λ (k : ℕ). get_or R (k % 128) 0 ∷ []) e
held-last R i (suc n) =
    let e : suc i + n ≡ i + suc n = omega arith in
    ap (λ (l : List ℕ). get_or R (i % 128) 0 ∷ l) (held-last R (suc i) n ∙ ap (λ (k : ℕ). held R (suc i) n ++ (get_or R (k % 128) 0 ∷ [])) e)

held-other : (R : List ℕ) (k x i n : ℕ) → ((m : ℕ) → m < n → (i + m) % 128 ≢ k) → held (set R k x) i n ≡ held R i n
unfolding held
held-other R k x i zero h = refl
held-other R k x i (suc n) h =
    let first : i % 128 ≢ k = subst (λ (m : ℕ). m % 128 ≢ k) (omega arith) (h 0 (omega arith)) in
    let others : (m : ℕ) → m < n → (suc i + m) % 128 ≢ k = λ m l. subst (λ (e : ℕ). e % 128 ≢ k) (omega arith) (h (suc m) (omega arith)) in
    ap (λ (y : ℕ). y ∷ held (set R k x) (suc i) n) (get_or-set_other R k (i % 128) x 0 first) ∙ ap (λ (l : List ℕ). get_or R (i % 128) 0 ∷ l) (held-other R k x (suc i) n others)

-- two of 128 places that follow one another are different
places-apart : (i m n : ℕ) → m < n → n < 128 → (i + m) % 128 ≢ (i + n) % 128
places-apart i m n h l e = omega arith

-- a number written behind n others
held_push : (R : List ℕ) (i n x : ℕ) → length R ≡ 128 → n < 128 → held (set R ((i + n) % 128) x) i (suc n) ≡ held R i n ++ (x ∷ [])
held_push R i n x ln h =
    let k : ℕ = (i + n) % 128 in
    let inside : k < length R = omega arith in
    held-last (set R k x) i n
    ∙ ap (λ (y : ℕ). held (set R k x) i n ++ (y ∷ [])) (get_or-set_same R k x 0 inside)
    ∙ ap (λ (l : List ℕ). l ++ (x ∷ [])) (held-other R k x i n (λ m l. places-apart i m n l h))

-- ---- the numbers below n, one after the other

pub record Filling (R : List ℕ) (k : ℕ) : Type 0 where
  pub size : length R ≡ 128
  pub numbers : (i : ℕ) → i < k → get_or R i 0 ≡ i

pub filling_first : (R : List ℕ) → length R ≡ 128 → Filling R 0
filling_first R ln = record { size = ln; numbers = λ i h. absurd (omega arith) }

pub filling_next : (R : List ℕ) (k : ℕ) → k < 128 → Filling R k → Filling (set R k k) (k + 1)
filling_next R k h f = record { size = length-set R k k ∙ f.size; numbers = λ i l. go i l (eqb i k) refl }
  where
    go : (i : ℕ) → i < k + 1 → (t : Bool) → eqb i k ≡ t → get_or (set R k k) i 0 ≡ i
    go i l true e =
        let q : i ≡ k = eqb-true i k e in
        ap (λ (m : ℕ). get_or (set R k k) m 0) q ∙ get_or-set_same R k k 0 (omega (arith, f.size)) ∙ sym q
    go i l false e = let q = eqb-false i k e in get_or-set_other R k i k 0 q ∙ f.numbers i (omega arith)

pub filling_last : (R : List ℕ) (n k : ℕ) → n ≤ k → Filling R k → Filled n R
filling_last R n k h f = record { size = f.size; numbers = λ i l. f.numbers i (omega arith) }

-- from place i on a ring that is filled holds the numbers from i on
filled-held : (R : List ℕ) (n i m : ℕ) → i + m ≤ n → n ≤ 128 → Filled n R → held R i m ≡ from i m
unfolding held from
filled-held R n i zero h l f = refl
filled-held R n i (suc m) h l f =
    let e : i % 128 ≡ i = omega arith in
    ap (λ (x : ℕ). x ∷ held R (suc i) m) (ap (λ (k : ℕ). get_or R k 0) e ∙ f.numbers i (omega arith))
    ∙ ap (λ (r : List ℕ). i ∷ r) (filled-held R n (suc i) m (omega arith) l f)

pub filled-all : (R : List ℕ) (n : ℕ) → n ≤ 128 → Filled n R → held R 0 n ≡ upto n
unfolding upto
filled-all R n l f = filled-held R n 0 n (omega arith) l f

-- ---- the bits of a word, one after the other

-- of the bits of w these are written behind the last of q, which made r of it, and those of `rest` are left
pub record Appending (q : Queue) (w base : ℕ) (r : Queue) (rest : ℕ) : Type 0 where
  pub size : length r.ring ≡ 128
  pub done : List ℕ
  pub split : bits w ≡ done ++ bits rest
  pub ends : r.tail ≡ q.tail + length done
  pub holds : (i n : ℕ) → i + n ≡ q.tail → n + length (bits w) ≤ 128 → held r.ring i (n + length done) ≡ held q.ring i n ++ map (λ b. base + b) done
  pub front : r.head ≡ q.head
  pub marks : r.waiting ≡ q.waiting
  pub trimmed : r.trimmed ≡ q.trimmed

module _ (q : Queue) (w base : ℕ) where
  pub appending_first : length q.ring ≡ 128 → Appending q w base q w
  appending_first ln = record {
    size = ln;
    done = [];
    split = refl;
    ends = omega arith;
    holds = λ i n e l. ap (held q.ring i) (omega arith) ∙ sym (append-nil (held q.ring i n));
    front = refl;
    marks = refl;
    trimmed = refl;
  }

  module _ (r : Queue) (rest : ℕ) (a : Appending q w base r rest) where
    count : length (bits w) ≡ length a.done + length (bits rest)
    count = ap length a.split ∙ length-append a.done (bits rest)

    -- the ring's places do not run over
    pub appending_at : r.tail ≤ q.tail + 64
    appending_at = let e = a.ends in omega (arith, count, bits_most w)

    module _ (b x : ℕ) (low : Lowest rest b) (e : x ≡ base + b) where
      taken : bits rest ≡ b ∷ bits (rest - 2 ^ b)
      taken = bits-lowest rest b low.small low.here low.below

      holds-next : (i n : ℕ) → i + n ≡ q.tail → n + length (bits w) ≤ 128
          → held (set r.ring (r.tail % 128) x) i (n + length (a.done ++ (b ∷ []))) ≡ held q.ring i n ++ map (λ b. base + b) (a.done ++ (b ∷ []))
      holds-next i n s l =
          let d : ℕ = length a.done in
          let k : length (bits rest) ≡ suc (length (bits (rest - 2 ^ b))) = ap length taken in
          let here : r.tail ≡ i + (n + d) = omega (arith, a.ends) in
          let more : n + length (a.done ++ (b ∷ [])) ≡ suc (n + d) = omega (arith, length-append a.done (b ∷ [])) in
          ap (held (set r.ring (r.tail % 128) x) i) more
          ∙ ap (λ (m : ℕ). held (set r.ring (m % 128) x) i (suc (n + d))) here
          ∙ held_push r.ring i (n + d) x a.size (omega (arith, count))
          ∙ ap (λ (t : List ℕ). t ++ (x ∷ [])) (a.holds i n s l)
          ∙ ap (λ (y : ℕ). (held q.ring i n ++ map (λ b. base + b) a.done) ++ (y ∷ [])) e
          ∙ append_assoc (held q.ring i n) (map (λ b. base + b) a.done) ((base + b) ∷ [])
          ∙ ap (λ (t : List ℕ). held q.ring i n ++ t) (sym (map-append (λ b. base + b) a.done (b ∷ [])))

      pub appending_next : Appending q w base (record { ring = set r.ring (r.tail % 128) x; head = r.head; tail = r.tail + 1; waiting = r.waiting; trimmed = r.trimmed }) (rest - 2 ^ b)
      appending_next = record {
        size = length-set r.ring (r.tail % 128) x ∙ a.size;
        done = a.done ++ (b ∷ []);
        split = a.split ∙ ap (λ (t : List ℕ). a.done ++ t) taken ∙ sym (append_assoc a.done (b ∷ []) (bits (rest - 2 ^ b)));
        ends = omega (arith, a.ends, length-append a.done (b ∷ []));
        holds = holds-next;
        front = a.front;
        marks = a.marks;
        trimmed = a.trimmed;
      }

    pub appending_last : rest ≡ 0 → Appended q w base r
    appending_last z =
        let all : bits w ≡ a.done = a.split ∙ ap (λ (t : ℕ). a.done ++ bits t) z ∙ ap (λ (t : List ℕ). a.done ++ t) zero_bits ∙ append-nil a.done in
        record {
          size = a.size;
          ends = a.ends ∙ ap (λ (t : List ℕ). q.tail + length t) (sym all);
          holds = λ i n s l. ap (λ (t : List ℕ). held r.ring i (n + length t)) all ∙ a.holds i n s l ∙ ap (λ (t : List ℕ). held q.ring i n ++ map (λ b. base + b) t) (sym all);
          front = a.front;
          marks = a.marks;
          trimmed = a.trimmed;
        }
