-- Laws of lines written field by field, and of lists written element by element. Assumes nothing.
use mathlib.Core.Path.{◌≡◌, sym, ap, ◌∙◌}
use mathlib.Core.List.{List, [], ◌∷◌, ◌++◌, flat_map, append_assoc, append-nil}
use Prim.Native.Nat.{ℕ, zero, suc, ◌+◌, ◌≤◌, ◌<◌}
use native.Mathlib.Omega.{arith}
use native.Mathlib.Numerals.{add-one}
use lib.ListN.{length, get_or, take, drop, take-append-drop}
use lib.Seq.{take-suc, take_all, drop-cons}
use Rattle.model.specs.Lists.{from, upto}
use Rattle.laws.proofs.ListLaws.{from-length, flat_map-append}
use Rattle.model.specs.Listing.{decimal, field, line}
use Rattle.listing.specs.declared.Page.{Page}
use Rattle.listing.specs.Writing.{Capacity, Wrote}
use Rattle.listing.proofs.WritingLaws.{wrote_append, wrote_none, capacity_first, capacity_rest}

-- ---- a line

-- a line of its first field and numbers n and u, in the order in which it is written
line-parts : (w : List ℕ) (n : ℕ) (u : List ℕ) → line w (n ∷ u) ≡ w ++ ((32 ∷ decimal n) ++ (flat_map field u ++ (10 ∷ [])))
unfolding line field flat_map
line-parts w n u = ap (λ (t : List ℕ). w ++ t) (append_assoc (32 ∷ decimal n) (flat_map field u) (10 ∷ []))

module _ {p : Page} (w : List ℕ) (n : ℕ) (u : List ℕ) (r : Capacity p (line w (n ∷ u))) where
  parts_capacity : Capacity p (w ++ ((32 ∷ decimal n) ++ (flat_map field u ++ (10 ∷ []))))
  parts_capacity = rw (line-parts w n u) at r

  pub first_capacity : Capacity p w
  first_capacity = capacity_first w ((32 ∷ decimal n) ++ (flat_map field u ++ (10 ∷ []))) parts_capacity

  module _ {p₁ : Page} (a : Wrote p w p₁) where
    numbers_capacity : Capacity p₁ ((32 ∷ decimal n) ++ (flat_map field u ++ (10 ∷ [])))
    numbers_capacity = capacity_rest a ((32 ∷ decimal n) ++ (flat_map field u ++ (10 ∷ []))) parts_capacity

    pub field_capacity : Capacity p₁ (32 ∷ decimal n)
    field_capacity = capacity_first (32 ∷ decimal n) (flat_map field u ++ (10 ∷ [])) numbers_capacity

    module _ {p₂ : Page} (b : Wrote p₁ (32 ∷ decimal n) p₂) where
      rest_capacity : Capacity p₂ (flat_map field u ++ (10 ∷ []))
      rest_capacity = capacity_rest b (flat_map field u ++ (10 ∷ [])) numbers_capacity

      pub fields_capacity : Capacity p₂ (flat_map field u)
      fields_capacity = capacity_first (flat_map field u) (10 ∷ []) rest_capacity

      module _ {p₃ : Page} (d : Wrote p₂ (flat_map field u) p₃) where
        pub newline_capacity : Capacity p₃ (10 ∷ [])
        newline_capacity = capacity_rest d (10 ∷ []) rest_capacity

        pub line_wrote : {p₄ : Page} → Wrote p₃ (10 ∷ []) p₄ → Wrote p (line w (n ∷ u)) p₄
        line_wrote z = rw (line-parts w n u) (wrote_append a (wrote_append b (wrote_append d z)))

-- no field behind the first number
pub no_fields : (p : Page) → Wrote p (flat_map field []) p
unfolding flat_map
no_fields p = wrote_none p

-- ---- a text for each element

module _ (f : ℕ → List ℕ) (xs : List ℕ) {p : Page} where
  pub each_start : Wrote p (flat_map f (take 0 xs)) p
  unfolding flat_map
  each_start = wrote_none p

  module _ (j : ℕ) (h : j < length xs) {q : Page} (w : Wrote p (flat_map f (take j xs)) q) where
    split : flat_map f xs ≡ flat_map f (take j xs) ++ (f (get_or xs j 0) ++ flat_map f (drop (suc j) xs))
    unfolding flat_map
    split = ap (flat_map f) (sym (take-append-drop j xs)) ∙ flat_map-append f (take j xs) (drop j xs) ∙ ap (λ (t : List ℕ). flat_map f (take j xs) ++ flat_map f t) (drop-cons xs j 0 h)

    next : flat_map f (take (suc j) xs) ≡ flat_map f (take j xs) ++ f (get_or xs j 0)
    unfolding flat_map
    next = ap (flat_map f) (take-suc xs j 0 h) ∙ flat_map-append f (take j xs) (get_or xs j 0 ∷ []) ∙ ap (λ (t : List ℕ). flat_map f (take j xs) ++ t) (append-nil (f (get_or xs j 0)))

    pub each_capacity : Capacity p (flat_map f xs) → Capacity q (f (get_or xs j 0))
    each_capacity r = capacity_first (f (get_or xs j 0)) (flat_map f (drop (suc j) xs)) (capacity_rest w (f (get_or xs j 0) ++ flat_map f (drop (suc j) xs)) (rw split at r))

    pub each_step : {z : Page} → Wrote q (f (get_or xs j 0)) z → Wrote p (flat_map f (take (j + 1) xs)) z
    each_step v = rw (add-one j, next) (wrote_append w v)

  pub each-end : (j : ℕ) → length xs ≤ j → {q : Page} → Wrote p (flat_map f (take j xs)) q → Wrote p (flat_map f xs) q
  each-end j h w = rw (take_all j xs h) at w

-- ---- a text for each number below n

from_at : (i n j : ℕ) → j < n → get_or (from i n) j 0 ≡ i + j
unfolding from
from_at i zero j h = absurd (omega arith)
from_at i (suc n) zero h = omega arith
from_at i (suc n) (suc j) h = let e = from_at (suc i) n j (omega arith) in omega arith

upto-at : (n j : ℕ) → j < n → get_or (upto n) j 0 ≡ j
unfolding upto
upto-at n j h = let e = from_at 0 n j h in omega arith

pub upto-length : (n : ℕ) → length (upto n) ≡ n
unfolding upto
upto-length n = from-length 0 n

module _ (f : ℕ → List ℕ) (n : ℕ) {p : Page} where
  module _ (j : ℕ) (h : j < n) {q : Page} (w : Wrote p (flat_map f (take j (upto n))) q) where
    inside : j < length (upto n)
    inside = rw (upto-length n) h

    pub count_capacity : Capacity p (flat_map f (upto n)) → Capacity q (f j)
    count_capacity r = rw (upto-at n j h) at (each_capacity f (upto n) j inside w r)

    pub count-step : {z : Page} → Wrote q (f j) z → Wrote p (flat_map f (take (j + 1) (upto n))) z
    count-step v = each_step f (upto n) j inside w (rw (upto-at n j h) v)

  pub count-end : (j : ℕ) → n ≤ j → {q : Page} → Wrote p (flat_map f (take j (upto n))) q → Wrote p (flat_map f (upto n)) q
  count-end j h w = each-end f (upto n) j (rw (upto-length n) h) w
