-- Laws of a table's domains: where a row stands in the table, what a choice uses there, and the enumeration of choices. Assumes nothing.
use mathlib.Core.Path.{◌≡◌, refl, sym, ap, subst, ◌∙◌}
use mathlib.Core.Logic.{◌⊎◌, inl, inr, ⊎_elim}
use mathlib.Core.Bool.{Bool, true, false, cond, false≢true}
use mathlib.Core.List.Memᴰ
use mathlib.Core.List.{List, [], ◌∷◌}
use Prim.Native.Nat.{ℕ, ◌+◌, ◌-◌, ◌*◌, ◌/◌, ◌%◌, ◌^◌, ◌≤◌, ◌<◌}
use native.Mathlib.Omega.{arith}
use lib.Dec.{eqb, ltb}
use lib.ListN.{length, drop, length-take, length-drop, get_or-eq_default}
use lib.Seq.{get_or-take, get_or-drop, length-take-le}
use borrow.Author.Tests.{ltb-true, ltb-false, lt-ltb, le-ltb, eqb-true, eqb-false, eq-eqb}
use Rattle.model.specs.Words.{bit, word, Words}
use Rattle.model.specs.Domains.{Variable, str, num, same_variable, row, strings_of, values_of, owner}
use Rattle.model.specs.Constraints.{Choice}
use Rattle.model.specs.Solutions.{text_bit, used}
use Rattle.model.specs.Support.{with_text, with_value, blank, choices}
use Rattle.laws.specs.Inclusion.{In, Within, Single, Below}
use Rattle.laws.proofs.ListLaws.{Sub, of-flat_map, in_flat_map}
use Rattle.laws.proofs.WordLaws.{zero_bit, pow-within, of-bits, bits-sub}
use Rattle.laws.proofs.BitsLaws.{pow-single}
use Rattle.laws.proofs.RowLaws.{of-strings, in_strings, strings-sub, used-within, within-used, text-single}

-- ---- a row in its table

pub row_word : (T : List ℕ) (x j : ℕ) → j < 64 → word (row T x) j ≡ word T (64 * x + j)
unfolding row
row_word T x j h = get_or-take 64 (drop (64 * x) T) j 0 h ∙ get_or-drop (64 * x) T j 0

row-short : (T : List ℕ) (x : ℕ) → length (row T x) ≤ 64
unfolding row
row-short T x = omega (arith, length-take 64 (drop (64 * x) T))

pub row-length : (T : List ℕ) (x : ℕ) → 64 * x + 64 ≤ length T → length (row T x) ≡ 64
unfolding row
row-length T x h = length-take-le 64 (drop (64 * x) T) (omega (arith, length-drop (64 * x) T))

pub row-past : (T : List ℕ) (x j : ℕ) → 64 ≤ j → word (row T x) j ≡ 0
row-past T x j h = let k = row-short T x in get_or-eq_default (row T x) 0 (omega arith)

pub row_within : (T U : List ℕ) → Below T U → (x j : ℕ) → Within (word (row T x) j) (word (row U x) j)
row_within T U p x j = go (ltb j 64) refl
  where
    go : (t : Bool) → ltb j 64 ≡ t → Within (word (row T x) j) (word (row U x) j)
    go true e = let h = ltb-true j 64 e in λ b q. ap (λ (w : ℕ). bit w b) (row_word U x j h) ∙ p.within (64 * x + j) b (ap (λ (w : ℕ). bit w b) (sym (row_word T x j h)) ∙ q)
    go false e = λ b q. absurd (false≢true (sym (zero_bit b) ∙ ap (λ (w : ℕ). bit w b) (sym (row-past T x j (ltb-false j 64 e))) ∙ q))

pub row_words : (T : List ℕ) → Words T → (x : ℕ) → Words (row T x)
row_words T bd x j b q = go (ltb j 64) refl
  where
    go : (t : Bool) → ltb j 64 ≡ t → b < 64
    go true e = bd (64 * x + j) b (ap (λ (w : ℕ). bit w b) (sym (row_word T x j (ltb-true j 64 e))) ∙ q)
    go false e = absurd (false≢true (sym (zero_bit b) ∙ ap (λ (w : ℕ). bit w b) (sym (row-past T x j (ltb-false j 64 e))) ∙ q))

-- a fact about the table's words, read in the row
pub row-single : (T : List ℕ) (x j : ℕ) → j < 64 → Single (word T (64 * x + j)) → Single (word (row T x) j)
row-single T x j h s = subst Single (sym (row_word T x j h)) s

-- a string of a row uses only bits of the table
pub text-within : (T : List ℕ) (x : ℕ) (w : List ℕ) → In w (strings_of T x) → (j : ℕ) → j < 64 → Within (text_bit w j) (word T (64 * x + j))
text-within T x w m j h b q = ap (λ (v : ℕ). bit v b) (sym (row_word T x j h)) ∙ used-within (row T x) w (of-strings (row T x) w m).inside j b q

-- and is a string of another table that has these bits
pub text_transfer : (T U : List ℕ) (x : ℕ) (w : List ℕ) → In w (strings_of T x) → ((j : ℕ) → j < 64 → Within (text_bit w j) (word U (64 * x + j))) → In w (strings_of U x)
text_transfer T U x w m h =
    let o = of-strings (row T x) w m in
    let k = o.small.length-short in
    in_strings (row U x) w (within-used (row U x) w (λ j l b q. ap (λ (v : ℕ). bit v b) (row_word U x j (omega arith)) ∙ h j (omega arith) b q)) o.small

-- ---- a table with more bits has larger domains

pub strings_of-sub : (T U : List ℕ) → Below T U → (x : ℕ) → Sub (strings_of T x) (strings_of U x)
strings_of-sub T U p x = strings-sub (row T x) (row U x) (row_within T U p x)

pub values_of-sub : (s : ℕ) (T U : List ℕ) → Below T U → (n : ℕ) → Sub (values_of s T n) (values_of s U n)
unfolding values_of
values_of-sub s T U p n = bits-sub _ _ (p.within (64 * s + n))

-- ---- variables

pub str≢num : {x n : ℕ} → str x ≡ num n → ⊥
str≢num {x} {n} e = let z : ◌≡◌ {A = ℕ} 0 1 = cc in omega arith

pub same-variable : (v u : Variable) → same_variable v u ≡ true → v ≡ u
unfolding same_variable
same-variable (str x) (str y) e = ap str (eqb-true x y e)
same-variable (str x) (num n) e = absurd (false≢true e)
same-variable (num n) (str x) e = absurd (false≢true e)
same-variable (num n) (num m) e = ap num (eqb-true n m e)

pub variable_same : (v u : Variable) → v ≡ u → same_variable v u ≡ true
unfolding same_variable
variable_same (str x) (str y) e = let q : x ≡ y = cc in eq-eqb x y q
variable_same (str x) (num n) e = absurd (str≢num e)
variable_same (num n) (str x) e = absurd (str≢num (sym e))
variable_same (num n) (num m) e = let q : n ≡ m = cc in eq-eqb n m q

pub owner-text : (s x j : ℕ) → x < s → j < 64 → owner s (64 * x + j) ≡ str x
unfolding owner
owner-text s x j h k =
    let t : ltb (64 * x + j) (64 * s) ≡ true = lt-ltb (64 * x + j) (64 * s) (omega arith) in
    let d : (64 * x + j) / 64 ≡ x = omega arith in
    rw (t, d)

pub owner-value : (s n : ℕ) → owner s (64 * s + n) ≡ num n
unfolding owner
owner-value s n =
    let t : ltb (64 * s + n) (64 * s) ≡ false = le-ltb (64 * s + n) (64 * s) (omega arith) in
    let d : 64 * s + n - 64 * s ≡ n = omega arith in
    rw (t, d)

-- ---- what a choice uses

pub used-text : (s : ℕ) (α : Choice) (x j : ℕ) → x < s → j < 64 → used s α (64 * x + j) ≡ text_bit (α.text x) j
unfolding used
used-text s α x j h k =
    let t : ltb (64 * x + j) (64 * s) ≡ true = lt-ltb (64 * x + j) (64 * s) (omega arith) in
    let d : (64 * x + j) / 64 ≡ x = omega arith in
    let m : (64 * x + j) % 64 ≡ j = omega arith in
    rw (t, d, m)

pub used-value : (s : ℕ) (α : Choice) (n : ℕ) → used s α (64 * s + n) ≡ 2 ^ (α.value n)
unfolding used
used-value s α n =
    let t : ltb (64 * s + n) (64 * s) ≡ false = le-ltb (64 * s + n) (64 * s) (omega arith) in
    let d : 64 * s + n - 64 * s ≡ n = omega arith in
    rw (t, d)

-- a word of a table is word j of the row of a string, or the word of a number: any fact about it has these two cases
pub by_word : (s : ℕ) (C : ℕ → Type 0) → ((x j : ℕ) → x < s → j < 64 → C (64 * x + j)) → ((n : ℕ) → C (64 * s + n)) → (i : ℕ) → C i
by_word s C text value i = go (ltb i (64 * s)) refl
  where
    go : (t : Bool) → ltb i (64 * s) ≡ t → C i
    go true e =
        let h = ltb-true i (64 * s) e in
        let d : 64 * (i / 64) + i % 64 ≡ i = omega arith in
        subst C d (text (i / 64) (i % 64) (omega arith) (omega arith))
    go false e =
        let h = ltb-false i (64 * s) e in
        let d : 64 * s + (i - 64 * s) ≡ i = omega arith in
        subst C d (value (i - 64 * s))

-- a choice uses at most one bit of a word
pub used-single : (s : ℕ) (α : Choice) (i : ℕ) → Single (used s α i)
used-single s α = by_word s (λ i. Single (used s α i)) (λ x j h k. subst Single (sym (used-text s α x j h k)) (text-single (α.text x) j)) (λ n. subst Single (sym (used-value s α n)) (pow-single (α.value n)))

-- a choice takes this variable from its domain
abbrev pub InDomain : ℕ → List ℕ → Choice → Variable → Type 0
InDomain s T γ (str x) = In (γ.text x) (strings_of T x)
InDomain s T γ (num n) = In (γ.value n) (values_of s T n)

-- it then uses only bits of the variable's words
pub domain-within : (s : ℕ) (T : List ℕ) (γ : Choice) (i : ℕ) → InDomain s T γ (owner s i) → Within (used s γ i) (word T i)
unfolding values_of
domain-within s T γ = by_word s (λ i. InDomain s T γ (owner s i) → Within (used s γ i) (word T i))
    (λ x j h k m. subst (λ (w : ℕ). Within w (word T (64 * x + j))) (sym (used-text s γ x j h k))
    (text-within T x (γ.text x) (subst (InDomain s T γ) (owner-text s x j h k) m) j k))
    (λ n m. subst (λ (w : ℕ). Within w (word T (64 * s + n))) (sym (used-value s γ n))
    (pow-within (γ.value n) (word T (64 * s + n)) (of-bits (word T (64 * s + n)) (subst (InDomain s T γ) (owner-value s n) m)).0))

-- two choices give this variable, and all of these, the same
abbrev pub SameAt : Choice → Choice → Variable → Type 0
SameAt γ α (str x) = γ.text x ≡ α.text x
SameAt γ α (num n) = γ.value n ≡ α.value n

abbrev pub Agree : List Variable → Choice → Choice → Type 0
Agree vs γ α = (v : Variable) → In v vs → SameAt γ α v

pub used-agree : (s : ℕ) (γ α : Choice) (i : ℕ) → SameAt γ α (owner s i) → used s γ i ≡ used s α i
used-agree s γ α = by_word s (λ i. SameAt γ α (owner s i) → used s γ i ≡ used s α i)
    (λ x j h k e. used-text s γ x j h k ∙ ap (λ (w : List ℕ). text_bit w j) (subst (SameAt γ α) (owner-text s x j h k) e) ∙ sym (used-text s α x j h k))
    (λ n e. used-value s γ n ∙ ap (λ (v : ℕ). 2 ^ v) (subst (SameAt γ α) (owner-value s n) e) ∙ sym (used-value s α n))

-- ---- the enumeration of choices

with-text-domain : (s : ℕ) (T : List ℕ) (x : ℕ) (γ : Choice) (w : List ℕ) → In w (strings_of T x) → (v : Variable) → (v ≡ str x) ⊎ InDomain s T γ v
    → InDomain s T (with_text x γ w) v
with-text-domain s T x γ w m (str y) h = go (eqb x y) refl h
  where
    go : (b : Bool) → eqb x y ≡ b → (str y ≡ str x) ⊎ In (γ.text y) (strings_of T y) → In (cond b w (γ.text y)) (strings_of T y)
    go true e k = subst (λ (z : ℕ). In w (strings_of T z)) (eqb-true x y e) m
    go false e (inl k) = let q : y ≡ x = cc in absurd (eqb-false x y e (sym q))
    go false e (inr k) = k
with-text-domain s T x γ w m (num n) (inl k) = absurd (str≢num (sym k))
with-text-domain s T x γ w m (num n) (inr k) = k

with-value-domain : (s : ℕ) (T : List ℕ) (n : ℕ) (γ : Choice) (u : ℕ) → In u (values_of s T n) → (v : Variable) → (v ≡ num n) ⊎ InDomain s T γ v
    → InDomain s T (with_value n γ u) v
with-value-domain s T n γ u m (num y) h = go (eqb n y) refl h
  where
    go : (b : Bool) → eqb n y ≡ b → (num y ≡ num n) ⊎ In (γ.value y) (values_of s T y) → In (cond b u (γ.value y)) (values_of s T y)
    go true e k = subst (λ (z : ℕ). In u (values_of s T z)) (eqb-true n y e) m
    go false e (inl k) = let q : y ≡ n = cc in absurd (eqb-false n y e (sym q))
    go false e (inr k) = k
with-value-domain s T n γ u m (str x) (inl k) = absurd (str≢num k)
with-value-domain s T n γ u m (str x) (inr k) = k

pub choices-sound : (s : ℕ) (T : List ℕ) (vs : List Variable) (γ : Choice) → In γ (choices s T vs) → (v : Variable) → In v vs → InDomain s T γ v
unfolding choices
choices-sound s T [] γ m v k = elim k [ ]
choices-sound s T (str x ∷ vs) γ m v k =
    let t = of-flat_map _ _ m in
    let u = Memᴰ.of_map _ _ t.2 in
    subst (λ (δ : Choice). InDomain s T δ v) u.2
    (with-text-domain s T x t.0 u.0 u.1 v (⊎_elim (λ e. inl e) (λ k'. inr (choices-sound s T vs t.0 t.1 v k')) (Memᴰ.cases_cons k)))
choices-sound s T (num n ∷ vs) γ m v k =
    let t = of-flat_map _ _ m in
    let u = Memᴰ.of_map _ _ t.2 in
    subst (λ (δ : Choice). InDomain s T δ v) u.2
    (with-value-domain s T n t.0 u.0 u.1 v (⊎_elim (λ e. inl e) (λ k'. inr (choices-sound s T vs t.0 t.1 v k')) (Memᴰ.cases_cons k)))

-- it has a choice that agrees with any that takes these variables from their domains
pub choices-complete : (s : ℕ) (T : List ℕ) (vs : List Variable) (α : Choice) → ((v : Variable) → In v vs → InDomain s T α v) → (γ : Choice) × In γ (choices s T vs) × Agree vs γ α
unfolding choices
choices-complete s T [] α h = (blank, Memᴰ.head refl, λ v m. elim m [ ])
choices-complete s T (str x ∷ vs) α h =
    let r = choices-complete s T vs α (λ v m. h v (Memᴰ.tail m)) in
    (with_text x r.0 (α.text x), in_flat_map _ r.1 (Memᴰ.map (with_text x r.0) (h (str x) (Memᴰ.head refl))), λ v m. at v r.0 (r.2 v) (Memᴰ.cases_cons m))
  where
    at : (v : Variable) (γ : Choice) → (In v vs → SameAt γ α v) → (v ≡ str x) ⊎ In v vs → SameAt (with_text x γ (α.text x)) α v
    at (str y) γ f m = go (eqb x y) refl m
      where
        go : (b : Bool) → eqb x y ≡ b → (str y ≡ str x) ⊎ In (str y) vs → cond b (α.text x) (γ.text y) ≡ α.text y
        go true e k = ap α.text (eqb-true x y e)
        go false e (inl k) = let q : y ≡ x = cc in absurd (eqb-false x y e (sym q))
        go false e (inr k) = f k
    at (num n) γ f (inl e) = absurd (str≢num (sym e))
    at (num n) γ f (inr m) = f m
choices-complete s T (num n ∷ vs) α h =
    let r = choices-complete s T vs α (λ v m. h v (Memᴰ.tail m)) in
    (with_value n r.0 (α.value n), in_flat_map _ r.1 (Memᴰ.map (with_value n r.0) (h (num n) (Memᴰ.head refl))), λ v m. at v r.0 (r.2 v) (Memᴰ.cases_cons m))
  where
    at : (v : Variable) (γ : Choice) → (In v vs → SameAt γ α v) → (v ≡ num n) ⊎ In v vs → SameAt (with_value n γ (α.value n)) α v
    at (num y) γ f m = go (eqb n y) refl m
      where
        go : (b : Bool) → eqb n y ≡ b → (num y ≡ num n) ⊎ In (num y) vs → cond b (α.value n) (γ.value y) ≡ α.value y
        go true e k = ap α.value (eqb-true n y e)
        go false e (inl k) = let q : y ≡ n = cc in absurd (eqb-false n y e (sym q))
        go false e (inr k) = f k
    at (str x) γ f (inl e) = absurd (str≢num e)
    at (str x) γ f (inr m) = f m
