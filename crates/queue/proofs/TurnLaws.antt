-- A turn of the queue: the front of the line that the ring holds, and the line after it. Assumes nothing.
use mathlib.Core.Path.{◌≡◌, refl, sym, ap, subst, ◌∙◌}
use mathlib.Core.Logic.{◌≢◌, ⊎_elim}
use mathlib.Core.Bool.{Bool, true, false, not, ◌&&◌, ◌||◌}
use mathlib.Core.List.Memᴰ
use mathlib.Core.List.{List, [], ◌∷◌, ◌++◌, map, append_assoc, head-eq_of_cons-eq, tail-eq_of_cons-eq}
use Prim.Native.Nat.{ℕ, suc, ◌+◌, ◌*◌, ◌%◌, ◌≤◌, ◌<◌}
use native.Mathlib.Omega.{arith}
use lib.Dec.{eqb}
use lib.ListN.{length, get_or, length-append, length-map}
use borrow.Author.Tests.{eqb-true}
use Rattle.model.specs.Lists.{any}
use Rattle.model.specs.Words.{bit, bits}
use Rattle.model.specs.Constraints.{Problem}
use Rattle.model.specs.Operations.{step_count}
use Rattle.laws.specs.Inclusion.{In}
use Rattle.laws.specs.Line.{waits, Line}
use Rattle.laws.proofs.ListLaws.{or_true}
use Rattle.laws.proofs.WordLaws.{bool_ext, of-bits, in_bits}
use Rattle.laws.proofs.QueueLaws.{in_waits, waits_in, waits-not, line-length}
use Rattle.queue.specs.declared.Steps.{Steps}
use Rattle.queue.specs.declared.Queue.{Queue}
use Rattle.queue.specs.Ring.{held, Appended, After, Marks, numbers, Ring, Advanced}

-- ---- the front of a line

module _ {P : Problem} {q : Queue} where
  -- where something waits the line has a front
  pub front : (js : List ℕ) → Ring P q js → q.head < q.tail → (j : ℕ) × (rest : List ℕ) × Ring P q (j ∷ rest)
  front [] r h = absurd (omega (arith, r.ends))
  front (j ∷ rest) r h = (j, rest, r)

  -- and where nothing does it is empty
  pub no_front : (js : List ℕ) → Ring P q js → q.tail ≤ q.head → js ≡ []
  no_front [] r h = refl
  no_front (j ∷ rest) r h = absurd (omega (arith, r.ends))

  module _ {j : ℕ} {js : List ℕ} (r : Ring P q (j ∷ js)) where
    pub front-is : get_or q.ring (q.head % 128) 0 ≡ j
    unfolding held
    front-is = head-eq_of_cons-eq r.holds

    pub front-step : j < step_count P
    front-step = r.line.steps j (Memᴰ.head refl)

    rest-held : held q.ring (suc q.head) (length js) ≡ js
    unfolding held
    rest-held = tail-eq_of_cons-eq r.holds

-- ---- which steps wait after it

waits-append : (q r : List ℕ) (d : ℕ) → waits (q ++ r) d ≡ (waits q d || waits r d)
unfolding any
waits-append [] r d = refl
waits-append (j ∷ q) r d = ap (λ (t : Bool). eqb d j || t) (waits-append q r d) ∙ either (eqb d j) (waits q d) (waits r d)
  where
    either : (a b c : Bool) → (a || (b || c)) ≡ ((a || b) || c)
    either true b c = refl
    either false b c = refl

waits-low : (w : Steps) (b : ℕ) → b < 64 → waits (numbers w) b ≡ bit w.low b
waits-low w b l = waits-append (bits w.low) (map (λ i. 64 + i) (bits w.high)) b
    ∙ bool_ext (waits (bits w.low) b || waits (map (λ i. 64 + i) (bits w.high)) b) (bit w.low b)
    (λ e. ⊎_elim (λ f. (of-bits w.low (waits_in (bits w.low) b f)).0)
    (λ f. let t = Memᴰ.of_map (λ i. 64 + i) (bits w.high) (waits_in (map (λ i. 64 + i) (bits w.high)) b f) in absurd (omega (arith, t.2)))
    (or_true (waits (bits w.low) b) (waits (map (λ i. 64 + i) (bits w.high)) b) e))
    (λ e. ap (λ (t : Bool). t || waits (map (λ i. 64 + i) (bits w.high)) b) (in_waits (bits w.low) b (in_bits w.low b e l)))

waits-high : (w : Steps) (b : ℕ) → b < 64 → waits (numbers w) (64 + b) ≡ bit w.high b
waits-high w b l = waits-append (bits w.low) (map (λ i. 64 + i) (bits w.high)) (64 + b)
    ∙ bool_ext (waits (bits w.low) (64 + b) || waits (map (λ i. 64 + i) (bits w.high)) (64 + b)) (bit w.high b)
    (λ e. ⊎_elim (λ f. absurd (omega (arith, (of-bits w.low (waits_in (bits w.low) (64 + b) f)).1)))
    (λ f.
    let t = Memᴰ.of_map (λ i. 64 + i) (bits w.high) (waits_in (map (λ i. 64 + i) (bits w.high)) (64 + b) f) in
    let k : t.0 ≡ b = omega (arith, t.2) in
    (of-bits w.high (subst (λ (i : ℕ). In i (bits w.high)) k t.1)).0)
    (or_true (waits (bits w.low) (64 + b)) (waits (map (λ i. 64 + i) (bits w.high)) (64 + b)) e))
    (λ e. or-second (waits (bits w.low) (64 + b)) (in_waits (map (λ i. 64 + i) (bits w.high)) (64 + b) (Memᴰ.map (λ i. 64 + i) (in_bits w.high b e l))))
  where
    or-second : (a : Bool) {c : Bool} → c ≡ true → (a || c) ≡ true
    or-second true e = refl
    or-second false e = e

-- the front waits no more
waits-rest : (j : ℕ) (js : List ℕ) (d : ℕ) → ((y : ℕ) → In y js → y ≢ j) → (waits (j ∷ js) d && not (eqb d j)) ≡ waits js d
unfolding any
waits-rest j js d n = go (eqb d j) refl
  where
    kept : (t : Bool) → (t && true) ≡ t
    kept true = refl
    kept false = refl

    go : (t : Bool) → eqb d j ≡ t → ((t || waits js d) && not t) ≡ waits js d
    go true e = sym (waits-not js d (λ m. n d m (eqb-true d j e)))
    go false e = kept (waits js d)

module _ {P : Problem} {q q₁ q₂ : Queue} {j : ℕ} {js : List ℕ} (few : step_count P ≤ 80) (r : Ring P q (j ∷ js)) (w v : Steps)
    (a : Appended q w.low 0 q₁) (c : Appended q₁ w.high 64 q₂) (after : After q.waiting j w v) (line : Line P (js ++ numbers w)) where
  marks : Marks v (js ++ numbers w)
  marks = record {
    first = λ b l.
        let e : 64 * 0 + b ≡ b = omega arith in
        after.low b l
        ∙ ap (λ (t : Bool). t || bit w.low b) (ap (λ (i : ℕ). bit q.waiting.low b && not (eqb i j)) e
        ∙ ap (λ (t : Bool). t && not (eqb b j)) (r.marks.first b l) ∙ waits-rest j js b r.line.distinct.0)
        ∙ ap (λ (t : Bool). waits js b || t) (sym (waits-low w b l)) ∙ sym (waits-append js (numbers w) b);
    second = λ b l.
        after.high b l
        ∙ ap (λ (t : Bool). t || bit w.high b) (ap (λ (t : Bool). t && not (eqb (64 + b) j)) (r.marks.second b l) ∙ waits-rest j js (64 + b) r.line.distinct.0)
        ∙ ap (λ (t : Bool). waits js (64 + b) || t) (sym (waits-high w b l)) ∙ sym (waits-append js (numbers w) (64 + b));
  }

  abbrev L : ℕ
  L = length (bits w.low)

  abbrev H : ℕ
  H = length (bits w.high)

  numbers-length : length (numbers w) ≡ L + H
  numbers-length = length-append (bits w.low) (map (λ b. 64 + b) (bits w.high)) ∙ ap (λ (n : ℕ). L + n) (length-map (bits w.high) (λ b. 64 + b))

  room : length js + (L + H) ≤ 80
  room = omega (arith, line-length P (js ++ numbers w) line, length-append js (numbers w), numbers-length, few)

  same_numbers : (xs : List ℕ) → map (λ b. 0 + b) xs ≡ xs
  same_numbers [] = refl
  same_numbers (x ∷ xs) = let e : 0 + x ≡ x = omega arith in ap (λ (y : ℕ). y ∷ map (λ b. 0 + b) xs) e ∙ ap (λ (l : List ℕ). x ∷ l) (same_numbers xs)

  holds : held q₂.ring (q.head + 1) (length (js ++ numbers w)) ≡ js ++ numbers w
  holds =
      let h : ℕ = q.head + 1 in
      let one : h ≡ suc q.head = omega arith in
      let n : length (js ++ numbers w) ≡ length js + L + H = omega (arith, length-append js (numbers w), numbers-length) in
      let low : held q₁.ring h (length js + L) ≡ held q.ring h (length js) ++ map (λ b. 0 + b) (bits w.low) =
      a.holds h (length js) (omega (arith, r.ends)) (omega (arith, room)) in
      let high : held q₂.ring h (length js + L + H) ≡ held q₁.ring h (length js + L) ++ map (λ b. 64 + b) (bits w.high) =
      c.holds h (length js + L) (omega (arith, a.ends, r.ends)) (omega (arith, room)) in
      let rest : held q.ring h (length js) ≡ js = ap (λ (k : ℕ). held q.ring k (length js)) one ∙ rest-held r in
      ap (held q₂.ring h) n ∙ high ∙ ap (λ (l : List ℕ). l ++ map (λ b. 64 + b) (bits w.high)) (low ∙ ap (λ (l : List ℕ). l ++ map (λ b. 0 + b) (bits w.low)) rest
      ∙ ap (λ (l : List ℕ). js ++ l) (same_numbers (bits w.low)))
      ∙ append_assoc js (bits w.low) (map (λ b. 64 + b) (bits w.high))

  pub ring-next : (t : ℕ) → Ring P (record { ring = q₂.ring; head = q.head + 1; tail = q₂.tail; waiting = v; trimmed = t }) (js ++ numbers w)
  ring-next t = record {
    size = c.size;
    line = line;
    holds = holds;
    ends = omega (arith, length-append js (numbers w), numbers-length, a.ends, c.ends, r.ends);
    marks = marks;
  }

-- where the front of the queue is that of q, and which steps wait is what it was in q
pub advanced : {q q₁ q₂ : Queue} {j t : ℕ} {w v : Steps} → Appended q w.low 0 q₁ → Appended q₁ w.high 64 q₂ → After q₂.waiting j w v
    → Advanced q j w t (record { ring = q₂.ring; head = q₂.head + 1; tail = q₂.tail; waiting = v; trimmed = t })
advanced {q} {q₁} {q₂} {j} {t} {w} {v} a c after =
    let h : q₂.head ≡ q.head = c.front ∙ a.front in
    let k : q₂.waiting ≡ q.waiting = c.marks ∙ a.marks in
    record {
      counts = ap (λ (n : ℕ). n + 1) h;
      same = refl;
      line = λ P few js r l. subst (λ (n : ℕ). Ring P (record { ring = q₂.ring; head = n + 1; tail = q₂.tail; waiting = v; trimmed = t }) (js ++ numbers w)) (sym h)
          (ring-next few r w v a c (subst (λ (u : Steps). After u j w v) k after) l t);
    }
