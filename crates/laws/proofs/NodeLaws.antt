-- Laws of a table on which no step strikes: its rows have no idle bits, and what follows for a node that is solved. Assumes nothing.
use mathlib.Core.Path.{◌≡◌, refl, sym, ap, subst, ◌∙◌}
use mathlib.Core.Logic.{⊎_elim}
use mathlib.Core.Bool.{Bool, true, false, false≢true}
use mathlib.Core.List.Memᴰ
use mathlib.Core.List.{List, [], map}
use Prim.Native.Nat.{ℕ, ◌+◌, ◌*◌, ◌≤◌, ◌<◌}
use native.Mathlib.Omega.{arith}
use lib.Dec.{leb, ltb, eqb}
use lib.ListN.{length, get_or}
use borrow.Author.Tests.{ltb-true, ltb-false, leb-true, le-leb, eqb-true, eq-eqb}
use Rattle.model.specs.Lists.{upto}
use Rattle.model.specs.Words.{bit, word, Words}
use Rattle.model.specs.Domains.{Variable, str, num, row, strings_of, values_of}
use Rattle.model.specs.Constraints.{Choice, Problem, Constraint, always, eq, neq, rev, cat, sub, len, regular, width, meets, variables}
use Rattle.model.specs.Solutions.{Fits, Solution, text_bit, used, table_of, InRange, WellFormed}
use Rattle.model.specs.Order.{Same}
use Rattle.model.specs.Support.{narrowed}
use Rattle.model.specs.Rounds.{variables_of, value_count, every_value, steps}
use Rattle.model.specs.Tree.{solved}
use Rattle.laws.specs.Inclusion.{In, Within, Single}
use Rattle.laws.specs.Lent.{Stable}
use Rattle.laws.proofs.ListLaws.{of-all, in_all, in_length, in_upto, of-upto, get_or_in, one_member}
use Rattle.laws.proofs.WordLaws.{pow-bit, of-bits, in_bits}
use Rattle.laws.proofs.TableLaws.{below_of, below_antisym}
use Rattle.laws.proofs.RowLaws.{strings-few, length-used, used-once}
use Rattle.laws.proofs.DomainLaws.{row-length, row-single, by_word, used-text, used-value, used-single, InDomain, SameAt, text-within}
use Rattle.laws.proofs.SupportLaws.{meets-agree, stays-only, touched-text}
use Rattle.laws.proofs.SolutionLaws.{table_of-length, table_of-word, own_below}

-- every constraint has a string
first-string : (c : Constraint) → (x : ℕ) × In (str x) (variables c)
unfolding variables
first-string (always x) = (x, Memᴰ.head refl)
first-string (eq x y) = (x, Memᴰ.head refl)
first-string (neq x y) = (x, Memᴰ.head refl)
first-string (rev x y) = (x, Memᴰ.head refl)
first-string (cat x y z) = (x, Memᴰ.head refl)
first-string (sub x y n) = (x, Memᴰ.head refl)
first-string (len x n) = (x, Memᴰ.head refl)
first-string (regular x d) = (x, Memᴰ.head refl)

-- ---- the problem's variables

pub in_variables : (P : Problem) (v : Variable) → InRange P v → In v (variables_of P)
unfolding variables_of
in_variables P (str x) h = Memᴰ.append_left (map num (upto P.numbers)) (Memᴰ.map str (in_upto P.strings x h))
in_variables P (num n) h = Memᴰ.append_right (map str (upto P.strings)) (Memᴰ.map num (in_upto P.numbers n h))

pub of-variables : (P : Problem) (v : Variable) → In v (variables_of P) → InRange P v
unfolding variables_of
of-variables P v m = ⊎_elim
    (λ k. let t = Memᴰ.of_map str _ k in subst (InRange P) t.2 (of-upto P.strings t.1))
    (λ k. let t = Memᴰ.of_map num _ k in subst (InRange P) t.2 (of-upto P.numbers t.1))
    (Memᴰ.append_cases (map str (upto P.strings)) m)

module _ (P : Problem) (S : List ℕ) where
  -- every variable has a value, by its number of values and by a value
  pub every_value-count : every_value P S ≡ true → (v : Variable) → InRange P v → 1 ≤ value_count P S v
  unfolding every_value
  every_value-count e v h = leb-true 1 (value_count P S v) (of-all (λ v. leb 1 (value_count P S v)) e (in_variables P v h))

  pub solved-count : solved P S ≡ true → (v : Variable) → InRange P v → value_count P S v ≡ 1
  unfolding solved
  solved-count e v h = eqb-true (value_count P S v) 1 (of-all (λ v. eqb (value_count P S v) 1) e (in_variables P v h))

  pub count_every_value : ((v : Variable) → InRange P v → 1 ≤ value_count P S v) → every_value P S ≡ true
  unfolding every_value
  count_every_value f = in_all (λ v. leb 1 (value_count P S v)) (variables_of P) (λ v m. le-leb 1 (value_count P S v) (f v (of-variables P v m)))

  pub count-solved : ((v : Variable) → InRange P v → value_count P S v ≡ 1) → solved P S ≡ true
  unfolding solved
  count-solved f = in_all (λ v. eqb (value_count P S v) 1) (variables_of P) (λ v m. eq-eqb (value_count P S v) 1 (f v (of-variables P v m)))

  pub fits_every_value : (α : Choice) → Fits P S α → every_value P S ≡ true
  unfolding value_count
  fits_every_value α f = count_every_value (elim [ str x ↦ λ h. in_length (f.texts_in x h) | num n ↦ λ h. in_length (f.values_in n h) ])

  -- the first value of each variable
  abbrev pub firsts : Choice
  firsts = record { text = λ x. get_or (strings_of S x) 0 []; value = λ n. get_or (values_of P.strings S n) 0 0 }

  pub every_value-fits : every_value P S ≡ true → Fits P S firsts
  unfolding value_count
  every_value-fits e = record {
    texts_in = λ x h. get_or_in (strings_of S x) 0 [] (every_value-count e (str x) h);
    values_in = λ n h. get_or_in (values_of P.strings S n) 0 0 (every_value-count e (num n) h);
  }

  pub solved_every_value : solved P S ≡ true → every_value P S ≡ true
  solved_every_value e = count_every_value (λ v h. let k = solved-count e v h in omega arith)

  pub dead_unsolved : every_value P S ≡ false → solved P S ≡ false
  dead_unsolved l = go (solved P S) refl
    where
      go : (t : Bool) → solved P S ≡ t → solved P S ≡ false
      go true e = absurd (false≢true (sym l ∙ solved_every_value e))
      go false e = e

-- ---- a table on which no step strikes

module _ (P : Problem) (wf : WellFormed P) (S : List ℕ) (bd : Words S) (ln : length S ≡ width P) (st : Stable P S) where
  -- every bit of a row is used by a string of the row
  pub tidy : (x : ℕ) → x < P.strings → (j : ℕ) → j < 64 → (b : ℕ) → bit (word S (64 * x + j)) b ≡ true → (w : List ℕ) × In w (strings_of S x) × (bit (text_bit w j) b ≡ true)
  unfolding steps variables
  tidy x h j k b q =
      let c : Constraint = always x in
      let fixed : narrowed P c S ≡ S = st c (Memᴰ.append_left P.constraints (Memᴰ.map always (in_upto P.strings x h))) in
      let i : 64 * x + j < length S = omega arith in
      let u = stays-only P c S (64 * x + j) b i (touched-text P c x j h k (Memᴰ.head refl)) (ap (λ (W : List ℕ). bit (word W (64 * x + j)) b) fixed ∙ q) in
      (u.0.text x, u.1.in_domains (str x) (Memᴰ.head refl), ap (λ (w : ℕ). bit w b) (sym (used-text P.strings u.0 x j h k)) ∙ u.2)

  pub value_in : (n b : ℕ) → bit (word S (64 * P.strings + n)) b ≡ true → In b (values_of P.strings S n)
  unfolding values_of
  value_in n b q = in_bits (word S (64 * P.strings + n)) b q (bd (64 * P.strings + n) b q)

  -- ---- a solved node is the table of a solution, and of no other

  module _ (sv : solved P S ≡ true) where
    one-text : (x : ℕ) → x < P.strings → length (strings_of S x) < 2
    unfolding value_count
    one-text x h = let e = solved-count P S sv (str x) h in omega arith

    one_value : (n : ℕ) → n < P.numbers → length (values_of P.strings S n) < 2
    unfolding value_count
    one_value n h = let e = solved-count P S sv (num n) h in omega arith

    pub solved-fits : Fits P S (firsts P S)
    solved-fits = every_value-fits P S (solved_every_value P S sv)

    pub solved-same : (β : Choice) → Fits P S β → Same P (firsts P S) β
    solved-same β f = record {
      same-texts = λ x h. one_member (strings_of S x) _ _ (one-text x h) (solved-fits.texts_in x h) (f.texts_in x h);
      same-values = λ n h. one_member (values_of P.strings S n) _ _ (one_value n h) (solved-fits.values_in n h) (f.values_in n h);
    }

    same_at : (γ : Choice) (v : Variable) → InRange P v → InDomain P.strings S γ v → SameAt γ (firsts P S) v
    same_at γ (str x) h m = one_member (strings_of S x) _ _ (one-text x h) m (solved-fits.texts_in x h)
    same_at γ (num n) h m = one_member (values_of P.strings S n) _ _ (one_value n h) m (solved-fits.values_in n h)

    solved-met : (c : Constraint) → In c P.constraints → meets P c (firsts P S) ≡ true
    unfolding steps
    solved-met c m =
        let f = first-string c in
        let x : ℕ = f.0 in
        let h : x < P.strings = wf c m (str x) f.1 in
        let w : List ℕ = (firsts P S).text x in
        let q = text-within S x w (solved-fits.texts_in x h) 0 (omega arith) (length w) (length-used w) in
        let fixed : narrowed P c S ≡ S = st c (Memᴰ.append_right (map always (upto P.strings)) m) in
        let i : 64 * x + 0 < length S = omega arith in
        let u = stays-only P c S (64 * x + 0) (length w) i (touched-text P c x 0 h (omega arith) f.1) (ap (λ (W : List ℕ). bit (word W (64 * x + 0)) (length w)) fixed ∙ q) in
        sym (meets-agree P c u.0 (firsts P S) (λ v k. same_at u.0 v (wf c m v k) (u.1.in_domains v k))) ∙ u.1.meeting

    pub solved-solution : Solution P S (firsts P S)
    solved-solution = record { fits = solved-fits; met = solved-met }

    -- a bit of the table is one that the solution uses
    solved-used : (i : ℕ) → i < width P → Within (word S i) (used P.strings (firsts P S) i)
    solved-used = by_word P.strings (λ i. i < width P → Within (word S i) (used P.strings (firsts P S) i))
        (λ x j h k l b q.
        let u = tidy x h j k b q in
        let e : u.0 ≡ (firsts P S).text x = one_member (strings_of S x) _ _ (one-text x h) u.1 (solved-fits.texts_in x h) in
        ap (λ (w : ℕ). bit w b) (used-text P.strings (firsts P S) x j h k) ∙ ap (λ (w : List ℕ). bit (text_bit w j) b) (sym e) ∙ u.2)
        (λ n l b q.
        let h : n < P.numbers = omega arith in
        let e : b ≡ (firsts P S).value n = one_member (values_of P.strings S n) b ((firsts P S).value n) (one_value n h) (value_in n b q) (solved-fits.values_in n h) in
        ap (λ (w : ℕ). bit w b) (used-value P.strings (firsts P S) n) ∙ pow-bit ((firsts P S).value n) b ∙ eq-eqb ((firsts P S).value n) b (sym e))

    pub solved-own : S ≡ table_of P (firsts P S)
    solved-own = below_antisym
        (below_of S (table_of P (firsts P S)) (ln ∙ sym (table_of-length P (firsts P S))) (λ i h b q.
        let k = subst (λ (n : ℕ). i < n) ln h in
        ap (λ (w : ℕ). bit w b) (table_of-word P (firsts P S) i k) ∙ solved-used i k b q))
        (own_below P (firsts P S) S ln solved-fits)

    pub solved-single : (i : ℕ) → i < width P → Single (word S i)
    solved-single i h =
        let e : word S i ≡ used P.strings (firsts P S) i = ap (λ (W : List ℕ). word W i) solved-own ∙ table_of-word P (firsts P S) i h in
        subst Single (sym e) (used-single P.strings (firsts P S) i)

  -- ---- values and bits: what an implementation tests

  -- a string whose words have at most one bit each has at most one value, and so has such a number
  pub text-few : (x : ℕ) → x < P.strings → ((j : ℕ) → j < 64 → Single (word S (64 * x + j))) → length (strings_of S x) < 2
  text-few x h f = let l = row-length S x (omega arith) in strings-few (row S x) (λ j k. row-single S x j (omega arith) (f j (omega arith)))

  pub value-few : (n : ℕ) → Single (word S (64 * P.strings + n)) → length (values_of P.strings S n) < 2
  unfolding values_of
  value-few n h = h

  -- a string whose row has a word with two bits has more than one value
  pub text-several : (x j : ℕ) → x < P.strings → j < 64 → (b c : ℕ) → bit (word S (64 * x + j)) b ≡ true → bit (word S (64 * x + j)) c ≡ true → b < c → 2 ≤ length (strings_of S x)
  text-several x j hx hj b c p q l = go (ltb (length (strings_of S x)) 2) refl
    where
      go : (t : Bool) → ltb (length (strings_of S x)) 2 ≡ t → 2 ≤ length (strings_of S x)
      go false e = ltb-false (length (strings_of S x)) 2 e
      go true e =
          let u = tidy x hx j hj b p in
          let v = tidy x hx j hj c q in
          let same : u.0 ≡ v.0 = one_member (strings_of S x) u.0 v.0 (ltb-true (length (strings_of S x)) 2 e) u.1 v.1 in
          let r = used-once v.0 j b c (ap (λ (w : List ℕ). bit (text_bit w j) b) (sym same) ∙ u.2) v.2 in
          absurd (omega arith)

  -- every variable has a value just where no length word and no number word is 0
  pub words_every_value : ((x : ℕ) → x < P.strings → (b : ℕ) × (bit (word S (64 * x)) b ≡ true)) → ((n : ℕ) → n < P.numbers → (b : ℕ) × (bit (word S (64 * P.strings + n)) b ≡ true)) → every_value P S ≡ true
  unfolding value_count
  words_every_value f g = count_every_value P S (elim [ str x ↦ λ h. text x h | num n ↦ λ h. let t = g n h in in_length (value_in n t.0 t.1) ])
    where
      text : (x : ℕ) → x < P.strings → 1 ≤ length (strings_of S x)
      text x h =
          let t = f x h in
          let q : 64 * x ≡ 64 * x + 0 = omega arith in
          let u = tidy x h 0 (omega arith) t.0 (subst (λ (y : ℕ). bit (word S y) t.0 ≡ true) q t.1) in
          in_length u.1

  pub every_value-lengths : every_value P S ≡ true → (x : ℕ) → x < P.strings → (b : ℕ) × (bit (word S (64 * x)) b ≡ true)
  every_value-lengths e x h =
      let w : List ℕ = (firsts P S).text x in
      let q : 64 * x + 0 ≡ 64 * x = omega arith in
      (length w, subst (λ (y : ℕ). bit (word S y) (length w) ≡ true) q (text-within S x w ((every_value-fits P S e).texts_in x h) 0 (omega arith) (length w) (length-used w)))

  pub every_value-numbers : every_value P S ≡ true → (n : ℕ) → n < P.numbers → (b : ℕ) × (bit (word S (64 * P.strings + n)) b ≡ true)
  unfolding values_of
  every_value-numbers e n h = ((firsts P S).value n, (of-bits _ ((every_value-fits P S e).values_in n h)).0)
