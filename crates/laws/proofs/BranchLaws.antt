-- Laws of the branch of a node: the paper's rule by variables is the first word with several bits, and of two choices that part there the lower comes
-- first. Assumes nothing.
use mathlib.Core.Path.{◌≡◌, refl, sym, ap, ap₂, subst, ◌∙◌}
use mathlib.Core.Logic.{◌⊎◌, inl, inr, ⊎_elim}
use mathlib.Core.Bool.{Bool, true, false, cond, ◌||◌, false≢true}
use mathlib.Core.List.{List, [], ◌∷◌, ◌++◌, map, flat_map}
use mathlib.Core.Option.{Option, none, some, Option-elim, bind}
use Prim.Native.Nat.{ℕ, zero, suc, ◌+◌, ◌-◌, ◌*◌, ◌^◌, ◌≤◌, ◌<◌}
use native.Mathlib.Omega.{arith}
use lib.Dec.{leb}
use lib.ListN.{length, get_or, set}
use borrow.Author.Tests.{leb-true, leb-false, le-leb, lt-leb}
use Rattle.model.specs.Lists.{any, find, from, upto}
use Rattle.model.specs.Words.{bit, bits, several, word, Words}
use Rattle.model.specs.Domains.{Variable, str, num, row, strings_of, values_of}
use Rattle.model.specs.Constraints.{Choice, Problem, width}
use Rattle.model.specs.Solutions.{Fits, text_bit, used, InRange, WellFormed}
use Rattle.model.specs.Order.{TextBefore, Before}
use Rattle.model.specs.Rounds.{variables_of, value_count, every_value}
use Rattle.model.specs.Tree.{solved, words_of, branch_variable, branch_word, branch, restricted, children}
use Rattle.laws.specs.Inclusion.{Single}
use Rattle.laws.specs.Lent.{Stable}
use Rattle.laws.specs.Traversal.{At}
use Rattle.laws.proofs.ListLaws.{of-any, in_any, of-from, in_from, one_member, some_member, from-append, flat_map-append, flat_map-map, find-same, find-flat_map, find-from}
use Rattle.laws.proofs.WordLaws.{pow_self, pow_inj, of-bits}
use Rattle.laws.proofs.BitsLaws.{several_true, several_false, two-bits}
use Rattle.laws.proofs.RowLaws.{same-lengths, same-symbols, same-strings, symbol-pow, symbol-inside}
use Rattle.laws.proofs.DomainLaws.{row-length, row-single, by_word, used-text, used-value}
use Rattle.laws.proofs.NodeLaws.{tidy, text-few, text-several, value-few, of-variables, solved-single, count-solved, every_value-count}

-- ---- the words of the variables, in order, are the words of the table

rows_words : (i n : ℕ) → flat_map (λ x. from (64 * x) 64) (from i n) ≡ from (64 * i) (64 * n)
unfolding flat_map from
rows_words i zero = refl
rows_words i (suc n) =
    let e : 64 * suc i ≡ 64 * i + 64 = omega arith in
    let d : 64 + 64 * n ≡ 64 * suc n = omega arith in
    ap (λ l. from (64 * i) 64 ++ l) (rows_words (suc i) n ∙ ap (λ (k : ℕ). from k (64 * n)) e) ∙ from-append (64 * i) 64 (64 * n) ∙ ap (from (64 * i)) d

numbers-words : (a i n : ℕ) → flat_map (λ m. (a + m) ∷ []) (from i n) ≡ from (a + i) n
unfolding flat_map from
numbers-words a i zero = refl
numbers-words a i (suc n) = let e : a + suc i ≡ suc (a + i) = omega arith in ap (λ l. (a + i) ∷ l) (numbers-words a (suc i) n ∙ ap (λ (k : ℕ). from k n) e)

variables-words : (P : Problem) → flat_map (words_of P) (variables_of P) ≡ upto (width P)
unfolding variables_of words_of upto
variables-words P =
    let s : ℕ = P.strings in
    let t : ℕ = P.numbers in
    let e : 64 * s + 0 ≡ 64 * 0 + 64 * s = omega arith in
    flat_map-append (words_of P) (map str (from 0 s)) (map num (from 0 t))
    ∙ ap₂ (λ l r. l ++ r) (flat_map-map (words_of P) str (from 0 s) ∙ rows_words 0 s) (flat_map-map (words_of P) num (from 0 t) ∙ numbers-words (64 * s) 0 t ∙ ap (λ (k : ℕ). from k t) e)
    ∙ from-append (64 * 0) (64 * s) t

-- ---- where a node branches

or_no : (a : Bool) → (a || false) ≡ a
or_no true = refl
or_no false = refl

module _ (P : Problem) (wf : WellFormed P) (S : List ℕ) (bd : Words S) (ln : length S ≡ width P) (st : Stable P S) where
  -- a variable has more than one value just where one of its words has more than one bit
  several-values : (v : Variable) → InRange P v → any (λ i. several (word S i)) (words_of P v) ≡ leb 2 (value_count P S v)
  unfolding words_of value_count values_of several any
  several-values (num n) h = or_no (leb 2 (length (bits (word S (64 * P.strings + n)))))
  several-values (str x) h = go (any (λ i. several (word S i)) (from (64 * x) 64)) refl
    where
      go : (t : Bool) → any (λ i. several (word S i)) (from (64 * x) 64) ≡ t → t ≡ leb 2 (length (strings_of S x))
      go true e =
          let u = of-any (λ i. several (word S i)) (from (64 * x) 64) e in
          let r = of-from (64 * x) 64 u.1 in
          let l = r.0 in
          let m = r.1 in
          sym (le-leb 2 (length (strings_of S x)) (in_word u.0 l m (two-bits (word S u.0) (several_true (word S u.0) u.2))))
        where
          in_word : (i : ℕ) → 64 * x ≤ i → i < 64 * x + 64 → (b : ℕ) × (c : ℕ) × (bit (word S i) b ≡ true) × (bit (word S i) c ≡ true) × (b < c) → 2 ≤ length (strings_of S x)
          in_word i l m t =
              let d : 64 * x + (i - 64 * x) ≡ i = omega arith in
              text-several P wf S bd ln st x (i - 64 * x) h (omega arith) t.0 t.1 (subst (λ (y : ℕ). bit (word S y) t.0 ≡ true) (sym d) t.2)
              (subst (λ (y : ℕ). bit (word S y) t.1 ≡ true) (sym d) t.3) t.4
      go false e = sym (lt-leb 2 (length (strings_of S x)) (text-few P wf S bd ln st x h (λ j k. single j k (several (word S (64 * x + j))) refl)))
        where
          single : (j : ℕ) → j < 64 → (t : Bool) → several (word S (64 * x + j)) ≡ t → Single (word S (64 * x + j))
          single j k true q = absurd (false≢true (sym e ∙ in_any (λ i. several (word S i)) (in_from (64 * x) 64 (64 * x + j) (omega arith) (omega arith)) q))
          single j k false q = several_false (word S (64 * x + j)) q

  -- the paper's branch is the first word with several bits
  pub branch-word : branch P S ≡ find (λ i. several (word S i)) (upto (width P))
  unfolding branch branch_variable branch_word
  branch-word =
      ap (λ (o : Option Variable). bind o (λ v. find (λ i. several (word S i)) (words_of P v)))
      (find-same (λ v. leb 2 (value_count P S v)) (λ v. any (λ i. several (word S i)) (words_of P v)) (variables_of P) (λ v m. sym (several-values v (of-variables P v m))))
      ∙ sym (find-flat_map (λ i. several (word S i)) (words_of P) (variables_of P))
      ∙ ap (find (λ i. several (word S i))) (variables-words P)

  pub branch-cases : ((branch P S ≡ none) × ((i : ℕ) → i < width P → Single (word S i))) ⊎ ((at : ℕ) × (branch P S ≡ some at) × At S at)
  unfolding upto
  branch-cases = ⊎_elim
      (λ r. inl (branch-word ∙ r.0, λ i h. several_false (word S i) (r.1 i (omega arith) (omega arith))))
      (λ r. inr (r.0, branch-word ∙ r.1, branching r.0 r.3 r.4 r.5))
      (find-from (λ i. several (word S i)) 0 (width P))
    where
      branching : (at : ℕ) → at < 0 + width P → several (word S at) ≡ true → ((j : ℕ) → 0 ≤ j → j < at → several (word S j) ≡ false) → At S at
      branching at l q f = record { two = several_true (word S at) q; inside = omega arith; before = λ j h. several_false (word S j) (f j (omega arith) h) }

  -- there is only one first word
  pub branch-at : (at : ℕ) → At S at → branch P S ≡ some at
  branch-at at a = ⊎_elim
      (λ r. let i = a.inside in let z = r.1 at (omega arith) in let t = a.two in absurd (omega arith))
      (λ r. let l = up_to r.0 at r.2 a in let m = up_to at r.0 a r.2 in let e : r.0 ≡ at = omega arith in r.1 ∙ ap some e)
      branch-cases
    where
      up_to : (m n : ℕ) → At S m → At S n → m ≤ n
      up_to m n a b = go (leb m n) refl
        where
          go : (t : Bool) → leb m n ≡ t → m ≤ n
          go true e = leb-true m n e
          go false e = let z = a.before n (leb-false m n e) in let t = b.two in absurd (omega arith)

  -- ---- the children of a node

  pub children-dead : every_value P S ≡ false → children P S ≡ []
  unfolding children
  children-dead l = rw l

  pub children-none : branch P S ≡ none → children P S ≡ []
  unfolding children Option-elim
  children-none e = go (every_value P S)
    where
      go : (t : Bool) → cond t (Option-elim (branch P S) [] (restricted S)) [] ≡ []
      go true = ap (λ (o : Option ℕ). Option-elim o [] (restricted S)) e
      go false = refl

  pub children-at : (at : ℕ) → branch P S ≡ some at → every_value P S ≡ true → children P S ≡ map (λ b. set S at (2 ^ b)) (bits (word S at))
  unfolding children restricted Option-elim
  children-at at e l = rw (l, e)

  -- ---- what code tests: no word with several bits, or the first of them

  pub single-solved : every_value P S ≡ true → ((i : ℕ) → i < width P → Single (word S i)) → solved P S ≡ true
  unfolding value_count
  single-solved l h = count-solved P S (elim [ str x ↦ λ at. text x at | num n ↦ λ at. value n at ])
    where
      text : (x : ℕ) → x < P.strings → length (strings_of S x) ≡ 1
      text x at = let a = every_value-count P S l (str x) at in let b = text-few P wf S bd ln st x at (λ j m. h (64 * x + j) (omega arith)) in omega arith

      value : (n : ℕ) → n < P.numbers → length (values_of P.strings S n) ≡ 1
      value n at = let a = every_value-count P S l (num n) at in let b = value-few P wf S bd ln st n (h (64 * P.strings + n) (omega arith)) in omega arith

  pub several_unsolved : (at : ℕ) → at < width P → 2 ≤ length (bits (word S at)) → solved P S ≡ false
  several_unsolved at h l = go (solved P S) refl
    where
      go : (t : Bool) → solved P S ≡ t → solved P S ≡ false
      go true e = let z = solved-single P wf S bd ln st e at h in absurd (omega arith)
      go false e = e

  -- ---- two choices branching the branch

  row_before : (at y : ℕ) → ((j : ℕ) → j < at → Single (word S j)) → 64 * y + 63 < at → y < P.strings → (j : ℕ) → j < length (row S y) → Single (word (row S y) j)
  row_before at y bf h hy j l = let e = row-length S y (omega arith) in row-single S y j (omega arith) (bf (64 * y + j) (omega arith))

  -- a choice that fits has one bit in the branch word
  pub used-one : (α : Choice) → Fits P S α → (at : ℕ) → At S at → at < width P → (c : ℕ) × (used P.strings α at ≡ 2 ^ c)
  unfolding text_bit
  used-one α f = by_word P.strings (λ at. At S at → at < width P → (c : ℕ) × (used P.strings α at ≡ 2 ^ c))
      (λ x j h at a l. let r = place x j h at a in (r.0, used-text P.strings α x j h at ∙ r.1))
      (λ n a l. (α.value n, used-value P.strings α n))
    where
      place : (x j : ℕ) → x < P.strings → j < 64 → At S (64 * x + j) → (c : ℕ) × (text_bit (α.text x) j ≡ 2 ^ c)
      place x zero hx hj a = (length (α.text x), refl)
      place x (suc j) hx hj a =
          let m = some_member (bits (word S (64 * x + suc j))) (let z = a.two in omega arith) in
          let u = tidy P wf S bd ln st x hx (suc j) hj m.0 (of-bits (word S (64 * x + suc j)) m.1).0 in
          let l = symbol-inside u.0 j m.0 u.2 in
          let e = same-lengths (row S x) (α.text x) u.0 (f.texts_in x hx) u.1 (row-single S x 0 (omega arith) (a.before (64 * x + 0) (omega arith))) in
          (get_or (α.text x) j 0, symbol-pow (α.text x) j (omega arith))

  -- of two choices that fit, the one with the lower bit there comes first
  pub lower-first : (α β : Choice) → Fits P S α → Fits P S β → (at : ℕ) → At S at → at < width P → (b c : ℕ) → used P.strings α at ≡ 2 ^ b → used P.strings β at ≡ 2 ^ c → b < c → Before P α β
  unfolding Before TextBefore text_bit values_of
  lower-first α β f g = by_word P.strings
      (λ at. At S at → at < width P → (b c : ℕ) → used P.strings α at ≡ 2 ^ b → used P.strings β at ≡ 2 ^ c → b < c → Before P α β)
      (λ x j hx hj a l b c p q lt. inl (
        x,
        hx,
        (λ y h. texts-before (64 * x + j) a y (omega arith) (omega arith)),
        place x j hx hj a b c (sym (used-text P.strings α x j hx hj) ∙ p) (sym (used-text P.strings β x j hx hj) ∙ q) lt,
      ))
      (λ n a l b c p q lt.
      let vα = pow_inj (α.value n) b (sym (used-value P.strings α n) ∙ p) in
      let vβ = pow_inj (β.value n) c (sym (used-value P.strings β n) ∙ q) in
      inr (n, omega arith, (λ y h. texts-before (64 * P.strings + n) a y h (omega arith)), (λ m h. values-before (64 * P.strings + n) a m (omega arith) (omega arith)), omega arith))
    where
      texts-before : (at : ℕ) → At S at → (y : ℕ) → y < P.strings → 64 * y + 63 < at → α.text y ≡ β.text y
      texts-before at a y h m = same-strings (row S y) (α.text y) (β.text y) (f.texts_in y h) (g.texts_in y h) (row_before at y a.before m h)

      values-before : (at : ℕ) → At S at → (m : ℕ) → m < P.numbers → 64 * P.strings + m < at → α.value m ≡ β.value m
      values-before at a m h r = one_member (values_of P.strings S m) (α.value m) (β.value m) (a.before (64 * P.strings + m) r) (f.values_in m h) (g.values_in m h)

      place : (x j : ℕ) → x < P.strings → j < 64 → At S (64 * x + j) → (b c : ℕ) → text_bit (α.text x) j ≡ 2 ^ b → text_bit (β.text x) j ≡ 2 ^ c → b < c → TextBefore (α.text x) (β.text x)
      place x zero hx hj a b c eα eβ lt =
          let vα = pow_inj (length (α.text x)) b eα in
          let vβ = pow_inj (length (β.text x)) c eβ in
          inl (omega arith)
      place x (suc j) hx hj a b c eα eβ lt =
          let one : (i : ℕ) → i < suc j → Single (word (row S x) i) = λ i h. row-single S x i (omega arith) (a.before (64 * x + i) (omega arith)) in
          let e = same-lengths (row S x) (α.text x) (β.text x) (f.texts_in x hx) (g.texts_in x hx) (one 0 (omega arith)) in
          let lα = symbol-inside (α.text x) j b (ap (λ (w : ℕ). bit w b) eα ∙ pow_self b) in
          let lβ = symbol-inside (β.text x) j c (ap (λ (w : ℕ). bit w c) eβ ∙ pow_self c) in
          let vα = pow_inj (get_or (α.text x) j 0) b (sym (symbol-pow (α.text x) j lα) ∙ eα) in
          let vβ = pow_inj (get_or (β.text x) j 0) c (sym (symbol-pow (β.text x) j lβ) ∙ eβ) in
          inr (e, (j, lα, (λ i h. same-symbols (row S x) (α.text x) (β.text x) (f.texts_in x hx) (g.texts_in x hx) i (omega arith) (omega arith) (one (suc i) (omega arith))), omega arith))
