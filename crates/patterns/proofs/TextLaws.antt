-- A pattern that was read has its letters between the place where it began and the place where it ended. Assumes nothing.
use mathlib.Core.Path.{◌≡◌, refl, subst}
use mathlib.Core.Bool.{Bool, true, false, cond}
use mathlib.Core.List.{List}
use Prim.Native.Nat.{ℕ, zero, suc, ◌+◌, ◌*◌}
use native.Mathlib.Omega.{arith}
use lib.Dec.{eqb, ltb}
use lib.ListN.{length, get_or}
use borrow.Author.Tests.{eqb-true}
use Rattle.model.specs.Pattern.{Pattern, empty, letter, either, both, many}
use Rattle.model.specs.PatternText.{Parsed, bad, parsed, then_read, starred, sees, ended, symbol_at, pattern_at, branch_at, item_at, parse}
use Rattle.patterns.proofs.Places.{Spans, spans_wider}

-- what was read from place p on lies between p and its end
unfoldable pub Lies : ℕ → Parsed → Type 0
Lies p bad = Unit
Lies p (parsed e q) = Spans e p q

lies-next : (o p : ℕ) (r : Parsed) (f : Pattern → ℕ → Parsed) → Lies o r → ((e : Pattern) (q : ℕ) → Spans e o q → Lies p (f e q)) → Lies p (then_read r f)
unfolding Lies then_read
lies-next o p bad f l k = tt
lies-next o p (parsed e q) f l k = k e q l

lies-cond : (p : ℕ) (t : Bool) (x y : Parsed) → Lies p x → Lies p y → Lies p (cond t x y)
lies-cond p true x y l m = l
lies-cond p false x y l m = m

lies-starred : (p : ℕ) (s : List ℕ) (e : Pattern) (q : ℕ) → Spans e p q → Lies p (starred s e q)
unfolding Lies starred Spans
lies-starred p s e q h = lies-cond p (sees s q 42) (parsed (many e) (q + 1)) (parsed e q) (spans_wider e (omega arith) (omega arith) h) h

-- one more unit of fuel, for each of the three readers
module _ (n : ℕ) (s : List ℕ) (p : ℕ) where
  lies-pattern : Lies p (branch_at n s p) → ((q : ℕ) → Lies q (pattern_at n s q)) → Lies p (pattern_at (suc n) s p)
  unfolding Lies pattern_at Spans
  lies-pattern b r = lies-next p p (branch_at n s p) (λ e q. cond (sees s q 124) (then_read (pattern_at n s (q + 1)) (λ f t. parsed (either e f) t)) (parsed e q)) b (λ e q h.
      lies-cond p (sees s q 124) (then_read (pattern_at n s (q + 1)) (λ f t. parsed (either e f) t)) (parsed e q)
      (lies-next (q + 1) p (pattern_at n s (q + 1)) (λ f t. parsed (either e f) t) (r (q + 1)) (λ f t k. (q, h, spans_wider f (omega arith) (omega arith) k)))
      h)

  lies-branch : Lies p (item_at n s p) → ((q : ℕ) → Lies q (branch_at n s q)) → Lies p (branch_at (suc n) s p)
  unfolding Lies branch_at Spans
  lies-branch i r = lies-cond p (ended s p) (parsed empty p) (then_read (item_at n s p) (λ e q. then_read (branch_at n s q) (λ f t. parsed (both e f) t)))
      (omega arith)
      (lies-next p p (item_at n s p) (λ e q. then_read (branch_at n s q) (λ f t. parsed (both e f) t)) i (λ e q h.
      lies-next q p (branch_at n s q) (λ f t. parsed (both e f) t) (r q) (λ f t k. (q, h, k))))

  lies-item : Lies (p + 1) (pattern_at n s (p + 1)) → Lies p (item_at (suc n) s p)
  unfolding Lies item_at Spans
  lies-item r = lies-cond p (eqb (get_or s p 0) 40) (then_read (pattern_at n s (p + 1)) (λ e q. cond (sees s q 41) (starred s e (q + 1)) bad)) (cond (ltb (symbol_at s p) 39) (starred s (letter p) (p + 1)) bad)
      (lies-next (p + 1) p (pattern_at n s (p + 1)) (λ e q. cond (sees s q 41) (starred s e (q + 1)) bad) r (λ e q h.
      lies-cond p (sees s q 41) (starred s e (q + 1)) bad (lies-starred p s e (q + 1) (spans_wider e (omega arith) (omega arith) h)) tt))
      (lies-cond p (ltb (symbol_at s p) 39) (starred s (letter p) (p + 1)) bad (lies-starred p s (letter p) (p + 1) (omega arith, omega arith)) tt)

pub lies : (n : ℕ) (s : List ℕ) → ((p : ℕ) → Lies p (pattern_at n s p)) × ((p : ℕ) → Lies p (branch_at n s p)) × ((p : ℕ) → Lies p (item_at n s p))
unfolding Lies pattern_at branch_at item_at
lies zero s = (λ p. tt, λ p. tt, λ p. tt)
lies (suc n) s =
    let r = lies n s in
    (λ p. lies-pattern n s p (r.1 p) r.0, λ p. lies-branch n s p (r.2 p) r.1, λ p. lies-item n s p (r.0 (p + 1)))

-- a text that is a pattern: where its letters lie, and where it ends
parse-reads : (s : List ℕ) (e : Pattern) (p : ℕ) → parse s ≡ parsed e p → Spans e 0 (length s) × (p ≡ length s)
unfolding parse then_read Lies
parse-reads s e p h = go (pattern_at (3 * length s + 3) s 0) ((lies (3 * length s + 3) s).0 0) h
  where
    end : (f : Pattern) (q : ℕ) (t : Bool) → eqb q (length s) ≡ t → Spans f 0 q → cond t (parsed f q) bad ≡ parsed e p → Spans e 0 (length s) × (p ≡ length s)
    end f q true k l m =
        let same : f ≡ e = cc in
        let place : q ≡ p = cc in
        let stop = eqb-true q (length s) k in
        (subst (λ (x : Pattern). Spans x 0 (length s)) same (spans_wider f (omega arith) (omega arith) l), omega arith)
    end f q false k l m = let z : ◌≡◌ {A = ℕ} 0 1 = cc in absurd (omega arith)

    go : (r : Parsed) → Lies 0 r → then_read r (λ f q. cond (eqb q (length s)) (parsed f q) bad) ≡ parsed e p → Spans e 0 (length s) × (p ≡ length s)
    go bad l m = let z : ◌≡◌ {A = ℕ} 0 1 = cc in absurd (omega arith)
    go (parsed f q) l m = end f q (eqb q (length s)) refl l m

pub parse_spans : (s : List ℕ) (e : Pattern) (p : ℕ) → parse s ≡ parsed e p → Spans e 0 (length s)
parse_spans s e p h = (parse-reads s e p h).0

pub parse-end : (s : List ℕ) (e : Pattern) (p : ℕ) → parse s ≡ parsed e p → p ≡ length s
parse-end s e p h = (parse-reads s e p h).1
