-- Where the variables that a record names stand, as an array lists them, and the union of their words in a lent index. Assumes nothing.
use Rattle.std.specs.Prelude.{Some, None}
use Rattle.std.specs.Option.{option_to_list}
use Rattle.std.proofs.Common.{lit≤, length-append, add-one}
use Rattle.std.proofs.Math.Seq.{take-suc-set}
use Rattle.std.proofs.lemmas.List.{length-map, length-take}
use mathlib.Core.Path.{◌≡◌, refl, sym, ap, subst, ◌∙◌}
use mathlib.Core.List.{List, [], ◌∷◌, ◌++◌, map, map-append, append-nil}
use Prim.Native.Nat.{ℕ, ◌+◌, ◌*◌, ◌≤◌, ◌<◌}
use native.Mathlib.Omega.{arith}
use lib.Bits.{bit_or, or_zero_r}
use lib.ListN.{length, get_or, take, set}
use Rattle.model.specs.Words.{union}
use Rattle.model.specs.Domains.{Variable, str, num}
use Rattle.model.specs.Constraints.{Problem, Constraint, always, eq, neq, rev, cat, sub, len, regular, variables}
use Rattle.model.specs.Solutions.{InRange}
use Rattle.laws.specs.Inclusion.{In}
use Rattle.laws.proofs.ListLaws.{get_or_in}
use Rattle.laws.proofs.WordLaws.{or_assoc}
use Rattle.records.specs.declared.Record.{Record}
use Rattle.records.specs.declared.names.Names.{Names}
use Rattle.records.specs.Records.{constraint_of}
use Rattle.steps.proofs.TidyLaws.{take_next}
use Rattle.index.specs.declared.positions.Positions.{Positions}
use Rattle.index.specs.Index.{position}
use Rattle.index.specs.Joining.{named, positions}
use Rattle.index.specs.Standing.{listed, Lent}

-- ---- what a record names, and where it stands

most-three : (c : Constraint) → length (variables c) ≤ 3
unfolding variables
most-three (always x) = lit≤ tt
most-three (eq x y) = lit≤ tt
most-three (neq x y) = lit≤ tt
most-three (rev x y) = lit≤ tt
most-three (cat x y z) = lit≤ tt
most-three (sub x y n) = lit≤ tt
most-three (len x n) = lit≤ tt
most-three (regular x d) = lit≤ tt

strings-stand : (s : ℕ) (xs : List ℕ) → map (position s) (map str xs) ≡ xs
unfolding position
strings-stand s [] = refl
strings-stand s (x ∷ xs) = ap (λ (ys : List ℕ). x ∷ ys) (strings-stand s xs)

module _ (s : ℕ) (r : Record) (m : Names) (long : length m.strings ≡ 3)
    (e : named r ≡ map str (take m.count m.strings) ++ map num (option_to_list m.number)) where
  stand : positions s r ≡ take m.count m.strings ++ map (position s) (map num (option_to_list m.number))
  stand =
      ap (map (position s)) e ∙ map-append (position s) (map str (take m.count m.strings)) (map num (option_to_list m.number))
      ∙ ap (λ (xs : List ℕ). xs ++ map (position s) (map num (option_to_list m.number))) (strings-stand s (take m.count m.strings))

  -- there is room for the number behind the strings
  pub number-room : {n : ℕ} → m.number ≡ Some n → m.count < 3
  number-room {n} q =
      let l : length (named r) ≡ length (take m.count m.strings) + 1 =
      ap length (rw q at e) ∙ simp (length-append, length-map) in
      omega (arith, m.most, length-take m.count m.strings, most-three (constraint_of r))

  pub strings-standing : (at : List ℕ) (count : ℕ) → m.number ≡ None → at ≡ m.strings → count ≡ m.count → take count at ≡ positions s r
  strings-standing at count q ea ec = sym (rw (q, ← ea, ← ec) at stand ∙ append-nil (take count at))

  pub number-standing : (n : ℕ) (at : List ℕ) (count : ℕ) → m.number ≡ Some n → at ≡ set m.strings m.count (s + n) → count ≡ m.count + 1 → take count at ≡ positions s r
  unfolding position
  number-standing n at count q ea ec =
      let room = number-room q in
      rw (ea, ec, add-one) (take-suc-set m.strings m.count (s + n) (omega (arith, long)) ∙ sym (rw q at stand))

pub position-below : (P : Problem) (v : Variable) → InRange P v → position P.strings v < P.strings + P.numbers
unfolding position
position-below P (str x) h = omega arith
position-below P (num n) h = omega arith

-- ---- a loop over these positions

-- what is so below n of each of these positions is so of that which the loop is at
pub below-here : (is js : List ℕ) (n : ℕ) → js ≡ is → ((i : ℕ) → In i is → i < n) → (j : ℕ) → j < length js → get_or js j 0 < n
below-here is js n e h j l = h _ (subst (λ (ks : List ℕ). In (get_or js j 0) ks) e (get_or_in js j 0 l))

-- the next one's words are in the lent index
pub next-lent : (m : Positions) (js : List ℕ) (n : ℕ) → js ≡ listed m → Lent m n → (j : ℕ) → j < length js → 2 * get_or js j 0 + 2 ≤ n
next-lent m js n e f j l = f.inside _ (subst (λ (ks : List ℕ). In (get_or js j 0) ks) e (get_or_in js j 0 l))

pub union-last : (ws : List ℕ) (w : ℕ) → bit_or (union ws) w ≡ union (ws ++ (w ∷ []))
unfolding union
union-last [] w = sym (or_zero_r w)
union-last (v ∷ ws) w = or_assoc v (union ws) w ∙ ap (bit_or v) (union-last ws w)

pub union-step : (f : ℕ → ℕ) (is : List ℕ) (j w : ℕ) → j < length is → w ≡ union (map f (take j is)) → bit_or w (f (get_or is j 0)) ≡ union (map f (take (j + 1) is))
union-step f is j w l e =
    ap (λ (u : ℕ). bit_or u (f (get_or is j 0))) e ∙ union-last (map f (take j is)) (f (get_or is j 0)) ∙ ap union (sym (map-append f (take j is) (get_or is j 0 ∷ [])))
    ∙ ap (λ (ks : List ℕ). union (map f ks)) (sym (take_next is j l))
