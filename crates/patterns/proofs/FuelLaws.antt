-- More fuel changes nothing: any two amounts that are enough give the same reading. Assumes nothing.
use mathlib.Core.Path.{◌≡◌, refl, ap, ◌∙◌}
use mathlib.Core.Bool.{Bool, true, false, cond, ◌||◌, true≢false}
use mathlib.Core.List.{List, [], ◌∷◌}
use Prim.Native.Nat.{ℕ, zero, suc, ◌+◌, ◌-◌, ◌*◌, ◌≤◌, ◌<◌}
use native.Mathlib.Omega.{arith}
use lib.Dec.{eqb, ltb, leb}
use lib.ListN.{length, get_or}
use borrow.Author.Tests.{ltb-true, leb-false, eqb-true}
use Rattle.laws.proofs.ListLaws.{and_true}
use Rattle.model.specs.Pattern.{Pattern, empty, letter, either, both, many}
use Rattle.model.specs.PatternText.{Parsed, bad, parsed, then_read, starred, sees, ended, symbol_at, pattern_at, branch_at, item_at}
use Rattle.patterns.proofs.Places.{spans_le}
use Rattle.patterns.proofs.TextLaws.{Lies, lies}

-- a byte that is seen stands in the text, and so does one where a branch goes on
pub sees_lt : (s : List ℕ) (p b : ℕ) → sees s p b ≡ true → p < length s
unfolding sees
sees_lt s p b e = ltb-true p (length s) (and_true (ltb p (length s)) (eqb (get_or s p 0) b) e).0

pub ended-not : (s : List ℕ) (p : ℕ) → ended s p ≡ false → p < length s
unfolding ended
ended-not s p h = go (leb (length s) p) refl h
  where
    go : (t : Bool) → leb (length s) p ≡ t → (t || eqb (get_or s p 0) 124 || eqb (get_or s p 0) 41) ≡ false → p < length s
    go true e k = absurd (true≢false k)
    go false e k = leb-false (length s) p e

byte_in : (s : List ℕ) (p b : ℕ) → 0 < b → get_or s p 0 ≡ b → p < length s
byte_in [] p b l e = absurd (omega arith)
byte_in (x ∷ s) zero b l e = omega arith
byte_in (x ∷ s) (suc p) b l e = let k = byte_in s p b l e in omega arith

-- what was read ends at this place or later
unfoldable Ends : ℕ → Parsed → Type 0
Ends lo bad = Unit
Ends lo (parsed e q) = lo ≤ q

ends_of : (lo : ℕ) (r : Parsed) (e : Pattern) (q : ℕ) → Ends lo r → r ≡ parsed e q → lo ≤ q
unfolding Ends
ends_of lo bad e q h k = let z : ◌≡◌ {A = ℕ} 0 1 = cc in absurd (omega arith)
ends_of lo (parsed f o) e q h k = let z : o ≡ q = cc in omega arith

ends-lies : (p : ℕ) (r : Parsed) → Lies p r → Ends p r
unfolding Ends Lies
ends-lies p bad h = tt
ends-lies p (parsed e q) h = spans_le e h

ends_next : (o p : ℕ) (r : Parsed) (f : Pattern → ℕ → Parsed) → Ends o r → ((e : Pattern) (q : ℕ) → o ≤ q → Ends p (f e q)) → Ends p (then_read r f)
unfolding Ends then_read
ends_next o p bad f l k = tt
ends_next o p (parsed e q) f l k = k e q l

ends-cond : (p : ℕ) (t : Bool) (x y : Parsed) → Ends p x → Ends p y → Ends p (cond t x y)
ends-cond p true x y l m = l
ends-cond p false x y l m = m

ends-starred : (lo : ℕ) (s : List ℕ) (e : Pattern) (p : ℕ) → lo ≤ p → Ends lo (starred s e p)
unfolding Ends starred
ends-starred lo s e p l = ends-cond lo (sees s p 42) (parsed (many e) (p + 1)) (parsed e p) (omega arith) l

-- an item takes a byte at least
ends-item : (n : ℕ) (s : List ℕ) (p : ℕ) → Ends (p + 1) (item_at n s p)
unfolding Ends item_at
ends-item zero s p = tt
ends-item (suc n) s p = ends-cond (p + 1) (eqb (get_or s p 0) 40) (then_read (pattern_at n s (p + 1)) (λ e q. cond (sees s q 41) (starred s e (q + 1)) bad)) (cond (ltb (symbol_at s p) 39) (starred s (letter p) (p + 1)) bad)
    (ends_next (p + 1) (p + 1) (pattern_at n s (p + 1)) (λ e q. cond (sees s q 41) (starred s e (q + 1)) bad) (ends-lies (p + 1) _ ((lies n s).0 (p + 1))) (λ e q l.
    ends-cond (p + 1) (sees s q 41) (starred s e (q + 1)) bad (ends-starred (p + 1) s e (q + 1) (omega arith)) tt))
    (ends-cond (p + 1) (ltb (symbol_at s p) 39) (starred s (letter p) (p + 1)) bad (ends-starred (p + 1) s (letter p) (p + 1) (omega arith)) tt)

-- ---- the same reading

next-same : (r t : Parsed) (f g : Pattern → ℕ → Parsed) → r ≡ t → ((e : Pattern) (q : ℕ) → t ≡ parsed e q → f e q ≡ g e q) → then_read r f ≡ then_read t g
unfolding then_read
next-same r t f g e h = ap (λ (x : Parsed). then_read x f) e ∙ go t h
  where
    go : (x : Parsed) → ((e : Pattern) (q : ℕ) → x ≡ parsed e q → f e q ≡ g e q) → then_read x f ≡ then_read x g
    go bad h = refl
    go (parsed e q) h = h e q refl

then_same : (t : Bool) (x y z : Parsed) → (t ≡ true → x ≡ y) → cond t x z ≡ cond t y z
then_same true x y z h = h refl
then_same false x y z h = refl

else_same : (t : Bool) (x y z : Parsed) → (t ≡ false → x ≡ y) → cond t z x ≡ cond t z y
else_same true x y z h = refl
else_same false x y z h = h refl

-- the three readers, at n and m units of fuel
pub record Same (s : List ℕ) (n m : ℕ) : Type 0 where
  pub patterns : (p : ℕ) → 3 * (length s - p) + 2 < n → 3 * (length s - p) + 2 < m → pattern_at n s p ≡ pattern_at m s p
  pub branches : (p : ℕ) → 3 * (length s - p) + 1 < n → 3 * (length s - p) + 1 < m → branch_at n s p ≡ branch_at m s p
  pub items : (p : ℕ) → 3 * (length s - p) < n → 3 * (length s - p) < m → item_at n s p ≡ item_at m s p

module _ (s : List ℕ) (n m : ℕ) (below : Same s n m) where
  same-pattern : (p : ℕ) → 3 * (length s - p) + 2 < suc n → 3 * (length s - p) + 2 < suc m → pattern_at (suc n) s p ≡ pattern_at (suc m) s p
  unfolding pattern_at
  same-pattern p l k = next-same (branch_at n s p) (branch_at m s p)
      (λ e q. cond (sees s q 124) (then_read (pattern_at n s (q + 1)) (λ f r. parsed (either e f) r)) (parsed e q))
      (λ e q. cond (sees s q 124) (then_read (pattern_at m s (q + 1)) (λ f r. parsed (either e f) r)) (parsed e q))
      (below.branches p (omega arith) (omega arith))
      (λ e q h. then_same (sees s q 124) (then_read (pattern_at n s (q + 1)) (λ f r. parsed (either e f) r)) (then_read (pattern_at m s (q + 1)) (λ f r. parsed (either e f) r)) (parsed e q) (λ t.
      let i = sees_lt s q 124 t in
      let j = ends_of p (branch_at m s p) e q (ends-lies p _ ((lies m s).1 p)) h in
      ap (λ (x : Parsed). then_read x (λ f r. parsed (either e f) r)) (below.patterns (q + 1) (omega arith) (omega arith))))

  same_branch : (p : ℕ) → 3 * (length s - p) + 1 < suc n → 3 * (length s - p) + 1 < suc m → branch_at (suc n) s p ≡ branch_at (suc m) s p
  unfolding branch_at
  same_branch p l k = else_same (ended s p)
      (then_read (item_at n s p) (λ e q. then_read (branch_at n s q) (λ f r. parsed (both e f) r)))
      (then_read (item_at m s p) (λ e q. then_read (branch_at m s q) (λ f r. parsed (both e f) r)))
      (parsed empty p)
      (λ t.
      let i = ended-not s p t in
      next-same (item_at n s p) (item_at m s p) (λ e q. then_read (branch_at n s q) (λ f r. parsed (both e f) r)) (λ e q. then_read (branch_at m s q) (λ f r. parsed (both e f) r))
      (below.items p (omega arith) (omega arith))
      (λ e q h.
      let j = ends_of (p + 1) (item_at m s p) e q (ends-item m s p) h in
      ap (λ (x : Parsed). then_read x (λ f r. parsed (both e f) r)) (below.branches q (omega arith) (omega arith))))

  same_item : (p : ℕ) → 3 * (length s - p) < suc n → 3 * (length s - p) < suc m → item_at (suc n) s p ≡ item_at (suc m) s p
  unfolding item_at
  same_item p l k = then_same (eqb (get_or s p 0) 40)
      (then_read (pattern_at n s (p + 1)) (λ e q. cond (sees s q 41) (starred s e (q + 1)) bad))
      (then_read (pattern_at m s (p + 1)) (λ e q. cond (sees s q 41) (starred s e (q + 1)) bad))
      (cond (ltb (symbol_at s p) 39) (starred s (letter p) (p + 1)) bad)
      (λ t.
      let i = byte_in s p 40 (omega arith) (eqb-true (get_or s p 0) 40 t) in
      ap (λ (x : Parsed). then_read x (λ e q. cond (sees s q 41) (starred s e (q + 1)) bad)) (below.patterns (p + 1) (omega arith) (omega arith)))

pub same-reading : (s : List ℕ) (n m : ℕ) → Same s n m
same-reading s zero m = record { patterns = λ p l k. absurd (omega arith); branches = λ p l k. absurd (omega arith); items = λ p l k. absurd (omega arith) }
same-reading s (suc n) zero = record { patterns = λ p l k. absurd (omega arith); branches = λ p l k. absurd (omega arith); items = λ p l k. absurd (omega arith) }
same-reading s (suc n) (suc m) =
    let r = same-reading s n m in
    record { patterns = same-pattern s n m r; branches = same_branch s n m r; items = same_item s n m r }
