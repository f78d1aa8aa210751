-- A solution's own table: the lines of its words are the lines of its values, and how long they are at most. Assumes nothing.
use mathlib.Core.Path.{◌≡◌, refl, sym, ap, ap₂, subst, ◌∙◌}
use mathlib.Core.List.Memᴰ
use mathlib.Core.List.{List, [], ◌∷◌, ◌++◌, map, flat_map, append-nil}
use Prim.Native.Nat.{ℕ, zero, suc, ◌+◌, ◌*◌, ◌/◌, ◌%◌, ◌^◌, ◌<◌}
use native.Mathlib.Omega.{arith}
use native.Mathlib.Nat.{pow-suc}
use lib.Count.{count_trailing_zeros}
use lib.ListN.{length, get_or, take, drop, length-map, length-drop}
use lib.Seq.{length-take-le, ext_get_or, get_or-take, get_or-drop}
use Rattle.model.specs.Lists.{upto}
use Rattle.model.specs.Words.{bits, word}
use Rattle.model.specs.Domains.{row, strings_of, values_of}
use Rattle.model.specs.Constraints.{Choice, Problem, width}
use Rattle.model.specs.Solutions.{Fits, text_bit, table_of}
use Rattle.laws.specs.Inclusion.{In, Single}
use Rattle.laws.proofs.ListLaws.{of-upto, get_d_map, flat_map_cong}
use Rattle.laws.proofs.WordLaws.{of-bits}
use Rattle.laws.proofs.BitsLaws.{pow-single}
use Rattle.laws.proofs.RowLaws.{Short, of-strings, length-pow, symbol-pow, text-single, strings-few}
use Rattle.laws.proofs.DomainLaws.{row_word, row-length, row-single, used-text, used-value}
use Rattle.laws.proofs.SolutionLaws.{table_of-length, table_of-word, own-fits}
use Rattle.model.specs.Listing.{string_line, number_line, solution_lines}
use Rattle.listing.specs.TableLines.{only_value, text_of, row_lines, word_lines, table_lines, Lengths}

-- ---- the value of a word with one bit

trailing_pow : (k v : ℕ) → v < k → count_trailing_zeros k (2 ^ v) ≡ v
unfolding count_trailing_zeros
trailing_pow zero v h = absurd (omega arith)
trailing_pow (suc k) zero h = refl
trailing_pow (suc k) (suc v) h =
    let p : 2 ^ suc v ≡ 2 ^ v * 2 = pow-suc 2 v in
    let e : 2 ^ suc v % 2 ≡ 0 = omega arith in
    let f : 2 ^ suc v / 2 ≡ 2 ^ v = omega arith in
    rw (e, f) (ap suc (trailing_pow k v (omega arith)))

value-pow : (v : ℕ) → v < 64 → only_value (2 ^ v) ≡ v
unfolding only_value
value-pow v h = trailing_pow 64 v h

-- ---- lists

-- a list of at most one element that has this one
only_member : {A : Type 0} (xs : List A) (x : A) → length xs < 2 → In x xs → xs ≡ x ∷ []
only_member {A = A} [] x h m = elim m [ ]
only_member (y ∷ []) x h (Memᴰ.head e) = ap (λ z. z ∷ []) (sym e)
only_member (y ∷ []) x h (Memᴰ.tail m) = elim m [ ]
only_member (y ∷ z ∷ xs) x h m = absurd (omega arith)

-- ---- a solution's own table

-- the lines of the values that a choice gives the problem's variables
unfoldable pub choice_lines : Problem → Choice → List ℕ
choice_lines P α = flat_map (λ x. string_line x (α.text x)) (upto P.strings) ++ flat_map (λ n. number_line n (α.value n)) (upto P.numbers)

module _ (P : Problem) (F : List ℕ) (α : Choice) (fits : Fits P F α) where
  pub text-short : (x : ℕ) → x < P.strings → Short (α.text x)
  text-short x h = (of-strings (row F x) (α.text x) (fits.texts_in x h)).small

  pub value-short : (n : ℕ) → n < P.numbers → α.value n < 64
  unfolding values_of
  value-short n h = (of-bits (word F (64 * P.strings + n)) (fits.values_in n h)).1

  own : List ℕ
  own = table_of P α

  text-word : (x j : ℕ) → x < P.strings → j < 64 → word own (64 * x + j) ≡ text_bit (α.text x) j
  unfolding own
  text-word x j h k = table_of-word P α (64 * x + j) (omega arith) ∙ used-text P.strings α x j h k

  value-word : (n : ℕ) → n < P.numbers → word own (64 * P.strings + n) ≡ 2 ^ α.value n
  unfolding own
  value-word n h = table_of-word P α (64 * P.strings + n) (omega arith) ∙ used-value P.strings α n

  own-length : length own ≡ width P
  unfolding own
  own-length = table_of-length P α

  -- each domain has just the value that the solution picks
  own-strings : (x : ℕ) → x < P.strings → strings_of own x ≡ α.text x ∷ []
  unfolding own
  own-strings x h =
      let l = row-length own x (omega (arith, own-length)) in
      only_member (strings_of own x) (α.text x)
      (strings-few (row own x) (λ j k. row-single own x j (omega arith) (subst Single (sym (text-word x j h (omega arith))) (text-single (α.text x) j))))
      ((own-fits P α F fits).texts_in x h)

  own-values : (n : ℕ) → n < P.numbers → values_of P.strings own n ≡ α.value n ∷ []
  unfolding own values_of
  own-values n h =
      only_member (bits (word own (64 * P.strings + n))) (α.value n) (subst Single (sym (value-word n h)) (pow-single (α.value n))) ((own-fits P α F fits).values_in n h)

  -- the values by the words
  row-value : (x j v : ℕ) → x < P.strings → j < 64 → v < 64 → text_bit (α.text x) j ≡ 2 ^ v → only_value (word (row own x) j) ≡ v
  row-value x j v h k l e = ap only_value (row_word own x j k ∙ text-word x j h k ∙ e) ∙ value-pow v l

  own-text : (x : ℕ) → x < P.strings → text_of (row own x) ≡ α.text x
  unfolding text_of
  own-text x h =
      let u = α.text x in
      let s = text-short x h in
      let short = s.length-short in
      let first : only_value (get_or (row own x) 0 0) ≡ length u = row-value x 0 (length u) h (omega arith) short (length-pow u 0 (omega arith)) in
      let size = row-length own x (omega (arith, own-length)) in
      let cut : length (take (length u) (drop 1 (row own x))) ≡ length u = length-take-le (length u) (drop 1 (row own x)) (omega (arith, length-drop 1 (row own x))) in
      rw first (ext_get_or 0 (map only_value (take (length u) (drop 1 (row own x)))) u (length-map (take (length u) (drop 1 (row own x))) only_value ∙ cut)
      (λ i k.
      let inside : i < length u = omega (arith, length-map (take (length u) (drop 1 (row own x))) only_value, cut) in
      let e : 1 + i ≡ suc i = omega arith in
      get_d_map only_value (take (length u) (drop 1 (row own x))) i 0 0 (omega (arith, cut))
      ∙ ap only_value (get_or-take (length u) (drop 1 (row own x)) i 0 inside ∙ get_or-drop 1 (row own x) i 0 ∙ ap (λ (j : ℕ). word (row own x) j) e)
      ∙ row-value x (suc i) (get_or u i 0) h (omega arith) (s.symbols-short i inside) (symbol-pow u i inside)))

  own_value : (n : ℕ) → n < P.numbers → only_value (get_or (drop (64 * P.strings) own) n 0) ≡ α.value n
  own_value n h = ap only_value (get_or-drop (64 * P.strings) own n 0 ∙ value-word n h) ∙ value-pow (α.value n) (value-short n h)

  -- what the writing asks of the table
  pub own-lengths : Lengths (table_of P α) P.strings
  unfolding own
  own-lengths x h =
      let short = (text-short x h).length-short in
      let e : 64 * x + 0 ≡ 64 * x = omega arith in
      rw (ap (word own) (sym e) ∙ text-word x 0 h (omega arith) ∙ length-pow (α.text x) 0 (omega arith), value-pow (length (α.text x)) short) short

  -- the lines of the domains, and the lines of the words
  pub solution-lines : solution_lines P (table_of P α) ≡ choice_lines P α
  unfolding own solution_lines choice_lines flat_map
  solution-lines = ap₂ (λ (t u : List ℕ). t ++ u)
      (flat_map_cong _ _ (upto P.strings) (λ x m. ap (flat_map (string_line x)) (own-strings x (of-upto _ m)) ∙ append-nil (string_line x (α.text x))))
      (flat_map_cong _ _ (upto P.numbers) (λ n m. ap (flat_map (number_line n)) (own-values n (of-upto _ m)) ∙ append-nil (number_line n (α.value n))))

  pub table-lines : table_lines P.strings (table_of P α) ≡ choice_lines P α
  unfolding own table_lines row_lines word_lines choice_lines
  table-lines =
      let e : length (drop (64 * P.strings) own) ≡ P.numbers = omega (arith, length-drop (64 * P.strings) own, own-length) in
      rw e (ap₂ (λ (t u : List ℕ). t ++ u)
      (flat_map_cong _ _ (upto P.strings) (λ x m. ap (string_line x) (own-text x (of-upto _ m))))
      (flat_map_cong _ _ (upto P.numbers) (λ n m. ap (number_line n) (own_value n (of-upto _ m)))))
