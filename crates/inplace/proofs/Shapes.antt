-- The steps in place by the shape of their arguments: one string, two, three, one and a number, two and a number. Each law takes what is to be shown of the
-- rows and words themselves. Assumes nothing.
use Rattle.std.specs.Prelude.{Some, None}
use mathlib.Core.Path.{◌≡◌, refl, sym, ap, ◌∙◌}
use mathlib.Core.Logic.{◌≢◌}
use mathlib.Core.Bool.{Bool, false, not, false≢true}
use mathlib.Core.List.Memᴰ
use mathlib.Core.List.{List, [], ◌∷◌, ◌++◌, append-nil}
use Prim.Native.Nat.{ℕ, zero, suc, ◌+◌, ◌*◌, ◌≤◌}
use native.Mathlib.Omega.{arith}
use lib.Dec.{eqb}
use lib.ListN.{length, get_or, replicate}
use Rattle.model.specs.Words.{word}
use Rattle.model.specs.Domains.{row}
use Rattle.model.specs.Constraints.{Constraint, Automaton}
use Rattle.model.specs.Support.{narrowed}
use Rattle.rows.specs.Rows.{alone}
use Rattle.laws.specs.Inclusion.{In}
use Rattle.inplace.specs.InTable.{Tidy, Out, Flag, zeros}
use Rattle.inplace.specs.InPlace.{InPlace, taken, flag}
use Rattle.rows.proofs.Positions.{below_one, below_two, below_three}

-- flags past the first of one, two or three variables say nothing

false_after_one : (a : Bool) (j : ℕ) → 1 ≤ j → get_or (a ∷ false ∷ false ∷ []) j false ≡ false
false_after_one a zero h = absurd (omega arith)
false_after_one a (suc zero) h = refl
false_after_one a (suc (suc zero)) h = refl
false_after_one a (suc (suc (suc j))) h = refl

false_after_two : (a b : Bool) (j : ℕ) → 2 ≤ j → get_or (a ∷ b ∷ false ∷ []) j false ≡ false
false_after_two a b zero h = absurd (omega arith)
false_after_two a b (suc zero) h = absurd (omega arith)
false_after_two a b (suc (suc zero)) h = refl
false_after_two a b (suc (suc (suc j))) h = refl

false_after_three : (a b c : Bool) (j : ℕ) → 3 ≤ j → get_or (a ∷ b ∷ c ∷ []) j false ≡ false
false_after_three a b c zero h = absurd (omega arith)
false_after_three a b c (suc zero) h = absurd (omega arith)
false_after_three a b c (suc (suc zero)) h = absurd (omega arith)
false_after_three a b c (suc (suc (suc j))) h = refl

-- ---- no choice

nothing-left : (ds : List Automaton) (d : Constraint) (xs is T U : List ℕ) → length U ≡ length T
    → ((k : ℕ) → ((x : ℕ) → In x xs → Out x k) → ((i : ℕ) → In i is → k ≢ i) → word U k ≡ word T k)
    → replicate (64 * length xs + length is) 0 ≡ narrowed (alone (length xs) (length is) ds) d (taken xs is T) → InPlace ds d xs is T U None
nothing-left ds d xs is T U size others e = record {
  size = size;
  others = others;
  done = λ q. absurd (false≢true q);
  tidy = λ q. absurd (false≢true q);
  rows = λ q. absurd (false≢true q);
  numbers = λ q. absurd (false≢true q);
  no_more = λ q. absurd (false≢true q);
  none = λ q. e;
}

-- ---- one string

module _ (ds : List Automaton) (d : Constraint) (x : ℕ) (T U : List ℕ) (size : length U ≡ length T) (others : (k : ℕ) → Out x k → word U k ≡ word T k) where
  pub one_left : row U x ≡ narrowed (alone 1 0 ds) d (row T x) → Tidy (row U x) → (cx : Bool)
      → Flag (row T x) (row U x) cx
      → InPlace ds d (x ∷ []) [] T U (Some (record { x = cx; y = false; z = false }))
  one_left e tx cx fx = record {
    size = size;
    others = λ k f g. others k (f x (Memᴰ.head refl));
    done = λ q. append-nil (row U x) ∙ e ∙ ap (λ (r : List ℕ). narrowed (alone 1 0 ds) d r) (sym (append-nil (row T x)));
    tidy = λ q z k. elim k [ Memᴰ.head p ↦ rw p tx | Memᴰ.tail k ↦ elim k [ ] ];
    rows = λ q. below_one (λ j. Flag (row T (get_or (x ∷ []) j 0)) (row U (get_or (x ∷ []) j 0)) (flag j (Some (record { x = cx; y = false; z = false })))) fx;
    numbers = λ q z. λ h. absurd (omega arith);
    no_more = λ q z h. false_after_one cx z (omega arith);
    none = λ q. absurd (false≢true (sym q));
  }

  pub one_none : zeros ≡ narrowed (alone 1 0 ds) d (row T x) → InPlace ds d (x ∷ []) [] T U None
  one_none e = nothing-left _ d _ _ T U size (λ k f g. others k (f x (Memᴰ.head refl)))
      (e ∙ ap (λ (r : List ℕ). narrowed (alone 1 0 ds) d r) (sym (append-nil (row T x))))

-- ---- two strings

module _ (d : Constraint) (x y : ℕ) (T U : List ℕ) (size : length U ≡ length T) (others : (k : ℕ) → Out x k → Out y k → word U k ≡ word T k) where
  pub two-left : row U x ++ row U y ≡ narrowed (alone 2 0 []) d (row T x ++ row T y) → Tidy (row U x) → Tidy (row U y) → (cx cy : Bool)
      → Flag (row T x) (row U x) cx → Flag (row T y) (row U y) cy
      → InPlace [] d (x ∷ y ∷ []) [] T U (Some (record { x = cx; y = cy; z = false }))
  two-left e tx ty cx cy fx fy = record {
    size = size;
    others = λ k f g. others k (f x (Memᴰ.head refl)) (f y (Memᴰ.tail (Memᴰ.head refl)));
    done = λ q. ap (λ (r : List ℕ). row U x ++ r) (append-nil (row U y)) ∙ e ∙ ap (λ (r : List ℕ). narrowed (alone 2 0 []) d r) (sym (ap (λ (r : List ℕ). row T x ++ r) (append-nil (row T y))));
    tidy = λ q z k. elim k [ Memᴰ.head p ↦ rw p tx | Memᴰ.tail k ↦ elim k [ Memᴰ.head p ↦ rw p ty | Memᴰ.tail k ↦ elim k [ ] ] ];
    rows = λ q. below_two (λ j. Flag (row T (get_or (x ∷ y ∷ []) j 0)) (row U (get_or (x ∷ y ∷ []) j 0)) (flag j (Some (record { x = cx; y = cy; z = false })))) fx fy;
    numbers = λ q z. λ h. absurd (omega arith);
    no_more = λ q z h. false_after_two cx cy z (omega arith);
    none = λ q. absurd (false≢true (sym q));
  }

  pub two_none : zeros ++ zeros ≡ narrowed (alone 2 0 []) d (row T x ++ row T y) → InPlace [] d (x ∷ y ∷ []) [] T U None
  two_none e = nothing-left _ d _ _ T U size (λ k f g. others k (f x (Memᴰ.head refl)) (f y (Memᴰ.tail (Memᴰ.head refl))))
      (e ∙ ap (λ (r : List ℕ). narrowed (alone 2 0 []) d r) (sym (ap (λ (r : List ℕ). row T x ++ r) (append-nil (row T y)))))

-- ---- three strings

module _ (d : Constraint) (x y z : ℕ) (T U : List ℕ) (size : length U ≡ length T) (others : (k : ℕ) → Out x k → Out y k → Out z k → word U k ≡ word T k) where
  pub three-left : row U x ++ (row U y ++ row U z) ≡ narrowed (alone 3 0 []) d (row T x ++ (row T y ++ row T z)) → Tidy (row U x) → Tidy (row U y) → Tidy (row U z) → (cx cy cz : Bool)
      → Flag (row T x) (row U x) cx → Flag (row T y) (row U y) cy → Flag (row T z) (row U z) cz
      → InPlace [] d (x ∷ y ∷ z ∷ []) [] T U (Some (record { x = cx; y = cy; z = cz }))
  three-left e tx ty tz cx cy cz fx fy fz = record {
    size = size;
    others = λ k f g. others k (f x (Memᴰ.head refl)) (f y (Memᴰ.tail (Memᴰ.head refl))) (f z (Memᴰ.tail (Memᴰ.tail (Memᴰ.head refl))));
    done = λ q. ap (λ (r : List ℕ). row U x ++ (row U y ++ r)) (append-nil (row U z)) ∙ e ∙ ap (λ (r : List ℕ). narrowed (alone 3 0 []) d r) (sym (ap (λ (r : List ℕ). row T x ++ (row T y ++ r)) (append-nil (row T z))));
    tidy = λ q z k. elim k [ Memᴰ.head p ↦ rw p tx | Memᴰ.tail k ↦ elim k [ Memᴰ.head p ↦ rw p ty | Memᴰ.tail k ↦ elim k [ Memᴰ.head p ↦ rw p tz | Memᴰ.tail k ↦ elim k [ ] ] ] ];
    rows = λ q. below_three (λ j. Flag (row T (get_or (x ∷ y ∷ z ∷ []) j 0)) (row U (get_or (x ∷ y ∷ z ∷ []) j 0)) (flag j (Some (record { x = cx; y = cy; z = cz })))) fx fy fz;
    numbers = λ q z. λ h. absurd (omega arith);
    no_more = λ q z h. false_after_three cx cy cz z (omega arith);
    none = λ q. absurd (false≢true (sym q));
  }

  pub three-none : zeros ++ (zeros ++ zeros) ≡ narrowed (alone 3 0 []) d (row T x ++ (row T y ++ row T z)) → InPlace [] d (x ∷ y ∷ z ∷ []) [] T U None
  three-none e = nothing-left _ d _ _ T U size (λ k f g. others k (f x (Memᴰ.head refl)) (f y (Memᴰ.tail (Memᴰ.head refl))) (f z (Memᴰ.tail (Memᴰ.tail (Memᴰ.head refl)))))
      (e ∙ ap (λ (r : List ℕ). narrowed (alone 3 0 []) d r) (sym (ap (λ (r : List ℕ). row T x ++ (row T y ++ r)) (append-nil (row T z)))))

-- ---- a string and a number, which has word i

module _ (d : Constraint) (x i : ℕ) (T U : List ℕ) (size : length U ≡ length T) (others : (k : ℕ) → Out x k → k ≢ i → word U k ≡ word T k) where
  pub counted-left : row U x ++ (word U i ∷ []) ≡ narrowed (alone 1 1 []) d (row T x ++ (word T i ∷ [])) → Tidy (row U x) → (cx ci : Bool)
      → Flag (row T x) (row U x) cx → ci ≡ not (eqb (word T i) (word U i))
      → InPlace [] d (x ∷ []) (i ∷ []) T U (Some (record { x = cx; y = ci; z = false }))
  counted-left e tx cx ci fx fi = record {
    size = size;
    others = λ k f g. others k (f x (Memᴰ.head refl)) (g i (Memᴰ.head refl));
    done = λ q. e;
    tidy = λ q z k. elim k [ Memᴰ.head p ↦ rw p tx | Memᴰ.tail k ↦ elim k [ ] ];
    rows = λ q. below_one (λ j. Flag (row T (get_or (x ∷ []) j 0)) (row U (get_or (x ∷ []) j 0)) (flag j (Some (record { x = cx; y = ci; z = false })))) fx;
    numbers = λ q. below_one (λ j. flag (length (x ∷ []) + j) (Some (record { x = cx; y = ci; z = false })) ≡ not (eqb (word T (get_or (i ∷ []) j 0)) (word U (get_or (i ∷ []) j 0)))) fi;
    no_more = λ q z h. false_after_two cx ci z (omega arith);
    none = λ q. absurd (false≢true (sym q));
  }

  pub counted_none : zeros ++ (0 ∷ []) ≡ narrowed (alone 1 1 []) d (row T x ++ (word T i ∷ [])) → InPlace [] d (x ∷ []) (i ∷ []) T U None
  counted_none e = nothing-left _ d _ _ T U size (λ k f g. others k (f x (Memᴰ.head refl)) (g i (Memᴰ.head refl)))
      (e)

-- ---- two strings and a number, which has word i

module _ (d : Constraint) (x y i : ℕ) (T U : List ℕ) (size : length U ≡ length T) (others : (k : ℕ) → Out x k → Out y k → k ≢ i → word U k ≡ word T k) where
  pub part_left : row U x ++ (row U y ++ (word U i ∷ [])) ≡ narrowed (alone 2 1 []) d (row T x ++ (row T y ++ (word T i ∷ []))) → Tidy (row U x) → Tidy (row U y) → (cx cy ci : Bool)
      → Flag (row T x) (row U x) cx → Flag (row T y) (row U y) cy → ci ≡ not (eqb (word T i) (word U i))
      → InPlace [] d (x ∷ y ∷ []) (i ∷ []) T U (Some (record { x = cx; y = cy; z = ci }))
  part_left e tx ty cx cy ci fx fy fi = record {
    size = size;
    others = λ k f g. others k (f x (Memᴰ.head refl)) (f y (Memᴰ.tail (Memᴰ.head refl))) (g i (Memᴰ.head refl));
    done = λ q. e;
    tidy = λ q z k. elim k [ Memᴰ.head p ↦ rw p tx | Memᴰ.tail k ↦ elim k [ Memᴰ.head p ↦ rw p ty | Memᴰ.tail k ↦ elim k [ ] ] ];
    rows = λ q. below_two (λ j. Flag (row T (get_or (x ∷ y ∷ []) j 0)) (row U (get_or (x ∷ y ∷ []) j 0)) (flag j (Some (record { x = cx; y = cy; z = ci })))) fx fy;
    numbers = λ q. below_one (λ j. flag (length (x ∷ y ∷ []) + j) (Some (record { x = cx; y = cy; z = ci })) ≡ not (eqb (word T (get_or (i ∷ []) j 0)) (word U (get_or (i ∷ []) j 0)))) fi;
    no_more = λ q z h. false_after_three cx cy ci z (omega arith);
    none = λ q. absurd (false≢true (sym q));
  }

  pub part_none : zeros ++ (zeros ++ (0 ∷ [])) ≡ narrowed (alone 2 1 []) d (row T x ++ (row T y ++ (word T i ∷ []))) → InPlace [] d (x ∷ y ∷ []) (i ∷ []) T U None
  part_none e = nothing-left _ d _ _ T U size (λ k f g. others k (f x (Memᴰ.head refl)) (f y (Memᴰ.tail (Memᴰ.head refl))) (g i (Memᴰ.head refl)))
      (e)
