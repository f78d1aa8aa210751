-- Rows made tidy one after the other, before the step of a constraint that names them. Assumes nothing.
use mathlib.Core.Path.{◌≡◌, refl, sym, ap, subst, ◌∙◌}
use mathlib.Core.Logic.{◌⊎◌, inl, inr, ⊎_elim}
use mathlib.Core.Bool.{Bool, true, false, false≢true}
use mathlib.Core.List.Memᴰ
use mathlib.Core.List.{List, [], ◌∷◌, ◌++◌}
use Prim.Native.Nat.{ℕ, suc, ◌+◌, ◌*◌, ◌<◌, ◌≤◌}
use native.Mathlib.Omega.{arith}
use lib.Dec.{eqb}
use lib.ListN.{length, get_or, take, drop, take-append-drop}
use lib.Seq.{take-suc}
use borrow.Author.Tests.{eqb-true, eqb-false}
use Rattle.model.specs.Words.{bit, word, Words}
use Rattle.model.specs.Domains.{Variable, str, row}
use Rattle.model.specs.Constraints.{Problem, Constraint, always, variables, width}
use Rattle.model.specs.Solutions.{InRange}
use Rattle.model.specs.Support.{narrowed}
use Rattle.laws.specs.Inclusion.{In, Below}
use Rattle.laws.specs.Supported.{InRow}
use Rattle.laws.proofs.ListLaws.{get_or_in}
use Rattle.laws.proofs.WordLaws.{zero_bit}
use Rattle.laws.proofs.TableLaws.{below_refl, below_trans}
use Rattle.laws.proofs.DomainLaws.{row-length, row_words}
use Rattle.laws.proofs.RowLaws.{length-used}
use Rattle.laws.proofs.SupportLaws.{narrowed-below}
use Rattle.rows.specs.Rows.{trimmed}
use Rattle.rows.proofs.TrimLaws.{trimmed-supports, trimmed-length, strings-allowed}
use Rattle.rows.proofs.StoreLaws.{stored-length, stored-before, stored-after}
use Rattle.inplace.proofs.Tidied.{trim-placed}
use Rattle.inplace.specs.InTable.{Tidy, Only, Trimmed, zeros}
use Rattle.inplace.proofs.Tables.{only_out, only-other}
use Rattle.inplace.proofs.Tidied.{tidied_narrowed}
use Rattle.steps.specs.Step.{cleared}
use Rattle.records.specs.declared.names.Names.{Names}
use Rattle.steps.specs.Names.{texts, Inside, Tidies}
use Rattle.steps.proofs.ClearLaws.{no-choice}

-- a row whose trimming is empty has no string
no-string : (r : List ℕ) → length r ≡ 64 → Words r → zeros ≡ trimmed r → (w : List ℕ) → InRow r w → ⊥
no-string r ln bd e w i =
    let q = (trimmed-supports r ln bd).complete 0 (length w) (omega arith) w i (length-used w) in
    false≢true (sym (zero_bit (length w)) ∙ ap (λ (l : List ℕ). bit (word l 0) (length w)) e ∙ q)

-- so nothing supports a constraint that names it
pub none_named : (P : Problem) (c : Constraint) (T : List ℕ) (x : ℕ) → Words T → 64 * x + 64 ≤ length T → In (str x) (variables c) → zeros ≡ trimmed (row T x)
    → cleared P c T ≡ narrowed P c T
none_named P c T x bd f m e = no-choice P c T (λ α s.
    no-string (row T x) (row-length T x f) (row_words T bd x) e (α.text x) (strings-allowed (row T x) (row_words T bd x) (α.text x) (s.in_domains (str x) m)))

pub tidies_none : (T : List ℕ) → Tidies [] T T true
tidies_none T = record {
  size = refl;
  others = λ k f. refl;
  tidy = λ q x m. elim m [ ];
  below = λ P ln h. below_refl T;
  same = λ P c ln r h. refl;
  none = λ q. absurd (false≢true (sym q));
}

-- what `tidy` of one row leaves is the old table with one row trimmed
module _ (U : List ℕ) (x : ℕ) (W : List ℕ) (some : Bool) (f : 64 * x + 64 ≤ length U) (t : Trimmed U x W some) where
  trimmed-only : Only U x W
  trimmed-only = go some refl
    where
      only_refl : U ≡ U → Only U x U
      only_refl e = record { size = refl; before = λ k h. refl; after = λ k h. refl }

      lr : length (trimmed (row U x)) ≡ 64
      lr = trimmed-length (row U x) ∙ row-length U x f

      go : (s : Bool) → some ≡ s → Only U x W
      go true q = subst (Only U x) (sym (t.left q).0)
          (record { size = stored-length U x (trimmed (row U x)) f lr; before = stored-before U x (trimmed (row U x)) f lr; after = stored-after U x (trimmed (row U x)) f lr })
      go false q = subst (Only U x) (sym (t.nothing q).0) (only_refl refl)

  -- it is the step that trims, or nothing
  trimmed-step : (P : Problem) → length U ≡ width P → x < P.strings → (W ≡ narrowed P (always x) U) ⊎ (W ≡ U)
  trimmed-step P ln h = go some refl
    where
      go : (s : Bool) → some ≡ s → (W ≡ narrowed P (always x) U) ⊎ (W ≡ U)
      go true q = inl ((t.left q).0 ∙ trim-placed P x h U ln)
      go false q = inr (t.nothing q).0

-- one row more
module _ (xs : List ℕ) (x : ℕ) (T U W : List ℕ) (some : Bool) (f : (y : ℕ) → In y (xs ++ (x ∷ [])) → 64 * y + 64 ≤ length T) (g : Tidies xs T U true) (t : Trimmed U x W some) where
  abbrev more : List ℕ
  more = xs ++ (x ∷ [])

  before : (y : ℕ) → In y xs → In y more
  before y m = Memᴰ.append_left (x ∷ []) m

  last : In x more
  last = Memᴰ.append_right xs (Memᴰ.head refl)

  of-more : (y : ℕ) → In y more → In y xs ⊎ (y ≡ x)
  of-more y m = go xs m
    where
      go : (ys : List ℕ) → In y (ys ++ (x ∷ [])) → In y ys ⊎ (y ≡ x)
      go [] (Memᴰ.head e) = inr e
      go [] (Memᴰ.tail k) = elim k [ ]
      go (z ∷ ys) (Memᴰ.head e) = inl (Memᴰ.head e)
      go (z ∷ ys) (Memᴰ.tail k) = ⊎_elim (λ i. inl (Memᴰ.tail i)) (λ e. inr e) (go ys k)

  fits : 64 * x + 64 ≤ length U
  fits = let e = g.size in let h = f x last in omega arith

  only : Only U x W
  only = trimmed-only U x W some fits t

  below_more : (P : Problem) → length T ≡ width P → ((y : ℕ) → In y more → y < P.strings) → Below W T
  below_more P ln h = below_trans
      (⊎_elim (λ e. subst (λ (S : List ℕ). Below S U) (sym e) (narrowed-below P (always x) U)) (λ e. subst (λ (S : List ℕ). Below S U) (sym e) (below_refl U))
      (trimmed-step U x W some fits t P (g.size ∙ ln) (h x last)))
      (g.below P ln (λ y m. h y (before y m)))

  same_more : (P : Problem) (c : Constraint) → length T ≡ width P → ((v : Variable) → In v (variables c) → InRange P v) → ((y : ℕ) → In y more → In (str y) (variables c))
      → narrowed P c W ≡ narrowed P c T
  same_more P c ln r h =
      let lU : length U ≡ width P = g.size ∙ ln in
      ⊎_elim (λ e. ap (narrowed P c) e ∙ tidied_narrowed P c r x (h x last) U lU) (λ e. ap (narrowed P c) e)
      (trimmed-step U x W some fits t P lU (r (str x) (h x last)))
      ∙ g.same P c ln r (λ y m. h y (before y m))

  pub tidies_next : Tidies more T W some
  tidies_next = record {
    size = only.size ∙ g.size;
    others = λ k o. only_out U x W only k (o x last) ∙ g.others k (λ y m. o y (before y m));
    tidy = λ q y m. ⊎_elim (λ i. at q y i (eqb y x) refl) (λ e. subst (λ (z : ℕ). Tidy (row W z)) (sym e) (t.left q).1) (of-more y m);
    below = below_more;
    same = same_more;
    none = λ q P c ln bd r h.
        let z = t.nothing q in
        let hx : x < P.strings = r (str x) (h x last) in
        let lW : length W ≡ length T = only.size ∙ g.size in
        let fx = f x last in
        let bW : Words W = λ i b e. bd i b ((below_more P ln (λ y m. r (str y) (h y m))).within i b e) in
        none_named P c W x bW (omega arith) (h x last) (z.1 ∙ ap (λ (S : List ℕ). trimmed (row S x)) (sym z.0));
  }
    where
      at : some ≡ true → (y : ℕ) → In y xs → (b : Bool) → eqb y x ≡ b → Tidy (row W y)
      at q y m true e = subst (λ (z : ℕ). Tidy (row W z)) (sym (eqb-true y x e)) (t.left q).1
      at q y m false e =
          let h = f y (before y m) in
          let l = g.size in
          subst Tidy (sym (only-other U x W only y (omega arith) (eqb-false y x e))) (g.tidy refl y m)

-- ---- the loop over the strings that are named

in_take : (xs : List ℕ) (j : ℕ) {y : ℕ} → In y (take j xs) → In y xs
in_take xs j {y} i = subst (In y) (take-append-drop j xs) (Memᴰ.append_left (drop j xs) i)

pub take_next : (l : List ℕ) (j : ℕ) → j < length l → take (j + 1) l ≡ take j l ++ (get_or l j 0 ∷ [])
take_next l j h = let e : j + 1 ≡ suc j = omega arith in ap (λ (i : ℕ). take i l) e ∙ take-suc l j 0 h

module _ (m : Names) (T : List ℕ) (f : Inside m T) {xs : List ℕ} (e : xs ≡ texts m) (j : ℕ) (h : j < length xs) where
  -- the next string is one of those that are named
  pub next-named : In (get_or xs j 0) (texts m)
  next-named = subst (In (get_or xs j 0)) e (get_or_in xs j 0 h)

  pub next-inside : 64 * get_or xs j 0 + 64 ≤ length T
  next-inside = f.rows (get_or xs j 0) next-named

  named-so-far : {y : ℕ} → In y (take (j + 1) xs) → In y (texts m)
  named-so-far {y} i = subst (In y) e (in_take xs (j + 1) i)

  module _ {U W : List ℕ} {some : Bool} (g : Tidies (take j xs) T U true) (t : Trimmed U (get_or xs j 0) W some) where
    after : Tidies (take (j + 1) xs) T W some
    after = subst (λ (ys : List ℕ). Tidies ys T W some) (sym (take_next xs j h))
        (tidies_next (take j xs) (get_or xs j 0) T U W some (λ y i. f.rows y (named-so-far (subst (In y) (sym (take_next xs j h)) i))) g t)

    pub tidies_turn : some ≡ true → Tidies (take (j + 1) xs) T W true
    tidies_turn q = subst (Tidies (take (j + 1) xs) T W) q after

    -- a row without a value: nothing of the others is looked at
    pub tidies_stop : some ≡ false → Tidies (texts m) T W false
    tidies_stop q =
        let s = after in
        record {
          size = s.size;
          others = λ k o. s.others k (λ y i. o y (named-so-far i));
          tidy = λ q. absurd (false≢true q);
          below = λ P ln r. s.below P ln (λ y i. r y (named-so-far i));
          same = λ P c ln r n. s.same P c ln r (λ y i. n y (named-so-far i));
          none = λ z P c ln bd r n. s.none q P c ln bd r (λ y i. n y (named-so-far i));
        }
