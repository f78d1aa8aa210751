-- The positions that a constraint names: it is one of a table of its own, in which they are 0, 1, .., under other names. A kind names the variables of that
-- table in order, so only ranges and distinctness are left to say. Assumes nothing.
use mathlib.Core.Path.{◌≡◌, refl, sym, ap, ap₂, subst, ◌∙◌}
use mathlib.Core.Logic.{◌≢◌}
use mathlib.Core.Bool.{cond}
use mathlib.Core.List.Memᴰ
use mathlib.Core.List.{map-append, map-map, List, [], ◌∷◌, ◌++◌, map}
use Prim.Native.Nat.{ℕ, zero, suc, ◌+◌, ◌<◌}
use native.Mathlib.Omega.{arith}
use lib.Dec.{eqb}
use lib.ListN.{length, get_or}
use borrow.Author.Tests.{eq-eqb, ne_eqb}
use Rattle.model.specs.Lists.{from, upto}
use Rattle.model.specs.Domains.{Variable, str, num}
use Rattle.model.specs.Constraints.{Choice, Problem, Constraint, Automaton, variables, meets}
use Rattle.model.specs.Solutions.{InRange}
use Rattle.model.specs.Rounds.{variables_of}
use Rattle.rows.specs.Rows.{alone}
use Rattle.laws.specs.Inclusion.{In, Distinct}
use Rattle.laws.proofs.ListLaws.{get_or_in}
use Rattle.laws.proofs.NodeLaws.{of-variables}
use Rattle.laws.proofs.RenameLaws.{Places, renamed, pulled}

-- ---- lists of positions

unfoldable pub index_of : ℕ → List ℕ → ℕ
index_of y [] = 0
index_of y (x ∷ xs) = cond (eqb y x) 0 (suc (index_of y xs))

pub index-of-position : (xs : List ℕ) → Distinct xs → (z : ℕ) → z < length xs → index_of (get_or xs z 0) xs ≡ z
unfolding index_of
index-of-position [] d z h = absurd (omega arith)
index-of-position (x ∷ xs) d zero h = rw (eq-eqb x x refl)
index-of-position (x ∷ xs) d (suc z) h =
    let m : In (get_or xs z 0) xs = get_or_in xs z 0 (omega arith) in
    rw (ne_eqb (get_or xs z 0) x (d.0 (get_or xs z 0) m)) (ap suc (index-of-position xs d.1 z (omega arith)))

abbrev pub places : List ℕ → List ℕ → Places
places xs ms = record { text-to = λ z. get_or xs z 0; value-to = λ z. get_or ms z 0; text-from = λ y. index_of y xs; value-from = λ m. index_of m ms }

-- c names strings xs and numbers ms where d names 0, 1, .. of a table of their own
pub record Named (P : Problem) (c : Constraint) (d : Constraint) (ds : List Automaton) (xs ms : List ℕ) : Type 0 where
  pub names : variables c ≡ map (renamed (places xs ms)) (variables d)
  pub small : (v : Variable) → In v (variables d) → InRange (alone (length xs) (length ms) ds) v
  pub meeting : (α : Choice) → meets P c α ≡ meets (alone (length xs) (length ms) ds) d (pulled (places xs ms) α)
  pub texts : (x : ℕ) → In x xs → (x < P.strings) × In (str x) (variables c)
  pub values : (m : ℕ) → In m ms → (m < P.numbers) × In (num m) (variables c)
  pub distinct-texts : Distinct xs
  pub distinct-values : Distinct ms

-- ---- a kind's own positions

-- a list by its indices, counted from i on
by_index : {A B : Type 0} (f : ℕ → B) (g : A → B) (xs : List A) (i : ℕ) (a : A) → ((z : ℕ) → z < length xs → f (i + z) ≡ g (get_or xs z a)) → map f (from i (length xs)) ≡ map g xs
unfolding from
by_index f g [] i a h = refl
by_index f g (x ∷ xs) i a h =
    let q : i ≡ i + 0 = omega arith in
    ap₂ (λ y l. y ∷ l) (ap f q ∙ h 0 (omega arith)) (by_index f g xs (suc i) a (λ z k. let e : suc i + z ≡ i + suc z = omega arith in ap f e ∙ h (suc z) (omega arith)))

module _ (P : Problem) (c d : Constraint) (ds : List Automaton) (xs ms : List ℕ) (vc : variables c ≡ map str xs ++ map num ms) (vd : variables d ≡ variables_of (alone (length xs) (length ms) ds)) where
  kind_names : variables c ≡ map (renamed (places xs ms)) (variables d)
  unfolding variables_of alone upto renamed
  kind_names =
      let ρ : Places = places xs ms in
      let texts : map (renamed ρ) (map str (from 0 (length xs))) ≡ map str xs =
      map-map (renamed ρ) str (from 0 (length xs)) ∙ by_index (λ z. str (get_or xs z 0)) str xs 0 0 (λ z h. let q : 0 + z ≡ z = omega arith in ap (λ (k : ℕ). str (get_or xs k 0)) q) in
      let values : map (renamed ρ) (map num (from 0 (length ms))) ≡ map num ms =
      map-map (renamed ρ) num (from 0 (length ms)) ∙ by_index (λ z. num (get_or ms z 0)) num ms 0 0 (λ z h. let q : 0 + z ≡ z = omega arith in ap (λ (k : ℕ). num (get_or ms k 0)) q) in
      vc ∙ sym (ap (map (renamed ρ)) vd ∙ map-append (renamed ρ) (map str (from 0 (length xs))) (map num (from 0 (length ms))) ∙ ap₂ (λ (l r : List Variable). l ++ r) texts values)

  -- a kind names the variables of a table of its own in order, so only ranges and distinctness are left to say
  pub named_kind : ((α : Choice) → meets P c α ≡ meets (alone (length xs) (length ms) ds) d (pulled (places xs ms) α)) → ((x : ℕ) → In x xs → x < P.strings) → ((m : ℕ) → In m ms → m < P.numbers)
      → Distinct xs → Distinct ms → Named P c d ds xs ms
  named_kind same hx hm dx dm = record {
    names = kind_names;
    small = λ v m. of-variables (alone (length xs) (length ms) ds) v (subst (λ (l : List Variable). In v l) vd m);
    meeting = same;
    texts = λ x m. (hx x m, subst (λ (l : List Variable). In (str x) l) (sym vc) (Memᴰ.append_left (map num ms) (Memᴰ.map str m)));
    values = λ m k. (hm m k, subst (λ (l : List Variable). In (num m) l) (sym vc) (Memᴰ.append_right (map str xs) (Memᴰ.map num k)));
    distinct-texts = dx;
    distinct-values = dm;
  }

-- ---- short lists of positions

pub one_below : (n : ℕ) {x : ℕ} → x < n → (y : ℕ) → In y (x ∷ []) → y < n
one_below n h y (Memᴰ.tail x5) = elim x5 [ ]
one_below n h y (Memᴰ.head e) = subst (λ (z : ℕ). z < n) (sym e) h

pub more-below : (n : ℕ) {x : ℕ} {xs : List ℕ} → x < n → ((y : ℕ) → In y xs → y < n) → (y : ℕ) → In y (x ∷ xs) → y < n
more-below n h r y (Memᴰ.head e) = subst (λ (z : ℕ). z < n) (sym e) h
more-below n h r y (Memᴰ.tail m) = r y m

pub none_below : (n : ℕ) (y : ℕ) → In y [] → y < n
none_below n y m = elim m [ ]

pub one-distinct : (x : ℕ) → Distinct (x ∷ [])
one-distinct x = ((λ y m. elim m [ ]), tt)

pub two-distinct : (i j : ℕ) → j ≢ i → Distinct (i ∷ j ∷ [])
two-distinct i j n = ((λ y m. elim m [ Memᴰ.head e ↦ λ q. n (sym e ∙ q) | Memᴰ.tail k ↦ elim k [ ] ]), one-distinct j)

pub three-distinct : (i j k : ℕ) → j ≢ i → k ≢ i → k ≢ j → Distinct (i ∷ j ∷ k ∷ [])
three-distinct i j k n m l = (
  (λ y h. elim h [ Memᴰ.head e ↦ λ q. n (sym e ∙ q) | Memᴰ.tail g ↦ elim g [ Memᴰ.head e ↦ λ q. m (sym e ∙ q) | Memᴰ.tail f ↦ elim f [ ] ] ]),
  two-distinct j k l,
)
