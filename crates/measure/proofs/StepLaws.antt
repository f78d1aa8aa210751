-- The rows of the three strings become tidy one after the other, and stay tidy from step to step. Assumes nothing.
use Rattle.std.specs.Prelude.{Option}
use Rattle.std.proofs.Common.{◌≡◌, ℕ, ◌+◌, ◌*◌, ◌<◌, ◌≤◌, Bool, true, false, eqb, ◌≢◌, List, [], ◌∷◌, length, sym, refl, ap, ◌∙◌, subst, ⊎_elim, arith, eq-eqb, eqb-true}
use mathlib.Core.Bool.{false≢true}
use mathlib.Core.List.Memᴰ
use borrow.Author.Tests.{eqb-false}
use Rattle.model.specs.Lists.{any}
use Rattle.model.specs.Domains.{row}
use Rattle.model.specs.Constraints.{Constraint, Automaton}
use Rattle.laws.specs.Inclusion.{In}
use Rattle.laws.proofs.ListLaws.{of-any, in_any}
use Rattle.laws.proofs.WordLaws.{none_from-all}
use Rattle.laws.proofs.DomainLaws.{row-length}
use Rattle.rows.specs.Rows.{trimmed}
use Rattle.rows.proofs.TrimLaws.{trimmed-length}
use Rattle.rows.proofs.StoreLaws.{stored-length, row-stored-other}
use Rattle.inplace.specs.InTable.{Tidy, Trimmed}
use Rattle.inplace.specs.declared.Changed.{Changed}
use Rattle.inplace.specs.InPlace.{InPlace, left}
use Rattle.inplace.proofs.Tables.{same_row}
use Rattle.cat.specs.Strings.{Strings}
use Rattle.regular.specs.PlaceSets.{Alphabet}
use Rattle.measure.specs.TidyRows.{TidyRows}

-- ---- a row made tidy

module _ {x : ℕ} {T U : List ℕ} {some : Bool} (h : x < 3) (l : length T ≡ 193) (t : Trimmed T x U some) (q : some ≡ true) where
  fits : 64 * x + 64 ≤ length T
  fits = omega arith

  whole : length (trimmed (row T x)) ≡ 64
  whole = trimmed-length (row T x) ∙ row-length T x fits

  after-length : length U ≡ 193
  after-length = ap length (t.left q).0 ∙ stored-length T x (trimmed (row T x)) fits whole ∙ l

  -- every other row is as it was
  after-row : (y : ℕ) → (y ≢ x → Tidy (row T y)) → Tidy (row U y)
  after-row y f = at (eqb y x) refl
    where
      at : (b : Bool) → eqb y x ≡ b → Tidy (row U y)
      at true e = subst (λ (z : ℕ). Tidy (row U z)) (sym (eqb-true y x e)) (t.left q).1
      at false e =
          let n = eqb-false y x e in
          subst Tidy (sym (ap (λ (S : List ℕ). row S y) (t.left q).0 ∙ row-stored-other T x (trimmed (row T x)) fits whole y n)) (f n)

pub tidy-none : (T : List ℕ) → length T ≡ 193 → TidyRows 0 T
tidy-none T l = record { size = l; tidy = λ x h. absurd (omega arith) }

pub tidy-next : {n : ℕ} {T U : List ℕ} {some : Bool} → n < 3 → TidyRows n T → Trimmed T n U some → some ≡ true → TidyRows (n + 1) U
tidy-next {n} h r t q = record {
  size = after-length h r.size t q;
  tidy = λ y l. after-row h r.size t q y (λ e. r.tidy y (other y l e));
}
  where
    other : (y : ℕ) → y < n + 1 → y ≢ n → y < n
    other y l e = at (eqb y n) refl
      where
        at : (b : Bool) → eqb y n ≡ b → y < n
        at true w = absurd (e (eqb-true y n w))
        at false w = omega arith

pub tidy-again : {T U : List ℕ} {some : Bool} → TidyRows 3 T → Trimmed T 0 U some → some ≡ true → TidyRows 3 U
tidy-again r t q = record { size = after-length (omega arith) r.size t q; tidy = λ y l. after-row (omega arith) r.size t q y (λ e. r.tidy y l) }

-- ---- what a step asks

module _ {T : List ℕ} (r : TidyRows 3 T) where
  tidy-x : Tidy (row T 0)
  tidy-x = r.tidy 0 (omega arith)

  tidy-y : Tidy (row T 1)
  tidy-y = r.tidy 1 (omega arith)

  tidy-z : Tidy (row T 2)
  tidy-z = r.tidy 2 (omega arith)

  row_fits : (x : ℕ) → x < 3 → 64 * x + 64 ≤ length T
  row_fits x h = let l = r.size in omega arith

  number_fits : 192 < length T
  number_fits = let l = r.size in omega arith

  pub asked-two : (64 * 0 + 64 ≤ length T) × (64 * 1 + 64 ≤ length T) × ◌≢◌ {A = ℕ} 1 0 × Tidy (row T 0) × Tidy (row T 1)
  asked-two = (row_fits 0 (omega arith), row_fits 1 (omega arith), (λ e. omega arith), tidy-x, tidy-y)

  pub asked-cat : Strings T 0 1 2
  asked-cat = record {
    fits-x = row_fits 0 (omega arith);
    fits-y = row_fits 1 (omega arith);
    fits-z = row_fits 2 (omega arith);
    y≢x = λ e. omega arith;
    z≢x = λ e. omega arith;
    z≢y = λ e. omega arith;
    tidy-x = tidy-x;
    tidy-y = tidy-y;
    tidy-z = tidy-z;
  }

  pub asked-sub : (64 * 2 + 64 ≤ 192) × (64 * 0 + 64 ≤ 192) × (192 < length T) × ◌≢◌ {A = ℕ} 0 2 × Tidy (row T 2) × Tidy (row T 0)
  asked-sub = (omega arith, omega arith, number_fits, (λ e. omega arith), tidy-z, tidy-x)

  pub asked-len : (64 * 2 + 64 ≤ 192) × (192 < length T) × Tidy (row T 2)
  asked-len = (omega arith, number_fits, tidy-z)

  -- a word has no bit at 64 or above
  pub asked-regular : (64 * 0 + 64 ≤ length T) × Alphabet 64 (row T 0) × Tidy (row T 0)
  asked-regular = (row_fits 0 (omega arith), record { below = λ j h. none_from-all _ }, tidy-x)

-- ---- what a step leaves

module _ {ds : List Automaton} {d : Constraint} {xs is T U : List ℕ} {c : Option Changed} (far : (i : ℕ) → In i is → 192 ≤ i) (r : TidyRows 3 T) (p : InPlace ds d xs is T U c) where
  -- a row that is not named is as it was
  same : (x : ℕ) → x < 3 → any (eqb x) xs ≡ false → row U x ≡ row T x
  same x h e =
      let l = r.size in
      same_row T x U p.size (omega arith) (λ j k.
      p.others (64 * x + j)
      (λ y m i g w. let s : x ≡ y = omega arith in false≢true (sym e ∙ in_any (eqb x) m (eq-eqb x y s)))
      (λ i m w. let g = far i m in omega arith))

  kept : left c ≡ true → TidyRows 3 U
  kept q = record { size = p.size ∙ r.size; tidy = λ x h. at x h (any (eqb x) xs) refl }
    where
      at : (x : ℕ) → x < 3 → (b : Bool) → any (eqb x) xs ≡ b → Tidy (row U x)
      at x h true e =
          let w = of-any (eqb x) xs e in
          subst (λ (y : ℕ). Tidy (row U y)) (sym (eqb-true x w.0 w.2)) (p.tidy q w.0 w.1)
      at x h false e = subst Tidy (sym (same x h e)) (r.tidy x h)

-- b says whether a choice is left
pub strings-kept : {ds : List Automaton} {d : Constraint} {xs T U : List ℕ} {c : Option Changed} {b : Bool} → TidyRows 3 T → InPlace ds d xs [] T U c → b ≡ left c → b ≡ true → TidyRows 3 U
strings-kept r p e q = kept (λ i m. elim m [ ]) r p (sym e ∙ q)

pub number-kept : {ds : List Automaton} {d : Constraint} {xs T U : List ℕ} {c : Option Changed} {b : Bool} → TidyRows 3 T → InPlace ds d xs (192 ∷ []) T U c → b ≡ left c → b ≡ true → TidyRows 3 U
number-kept r p e q = kept (λ i m. ⊎_elim (λ e. omega arith) (λ k. elim k [ ]) (Memᴰ.cases_cons m)) r p (sym e ∙ q)
