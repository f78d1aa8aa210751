-- Laws of crates/model/specs/StepIndex.antt: the bits of a word of step numbers, the steps that touch a variable, and the words of the index. Assumes nothing.
use mathlib.Core.Path.{◌≡◌, refl, sym, ap, subst, ◌∙◌}
use mathlib.Core.Bool.{Bool, true, false, ◌&&◌}
use mathlib.Core.List.Memᴰ
use mathlib.Core.List.{List, [], ◌∷◌, ◌++◌, map, flat_map}
use Prim.Native.Nat.{ℕ, zero, suc, ◌+◌, ◌-◌, ◌*◌, ◌^◌, ◌≤◌, ◌<◌}
use native.Mathlib.Omega.{arith}
use native.Mathlib.Nat.{mul-suc}
use lib.Dec.{leb, ltb}
use lib.ListN.{length, get_or, length-append, length-map, get_or-append}
use lib.Seq.{get_or-append-add}
use borrow.Author.Tests.{leb-true, ltb-true, le-leb, lt-ltb, le-ltb}
use Rattle.model.specs.Lists.{select, upto}
use Rattle.model.specs.Words.{bit, word}
use Rattle.model.specs.Domains.{Variable, str, num, same_variable}
use Rattle.model.specs.Constraints.{Problem, always, variables}
use Rattle.model.specs.Rounds.{variables_of}
use Rattle.model.specs.Operations.{step_at, step_count}
use Rattle.model.specs.StepIndex.{step_touches, touching, word_from, pair, index_of}
use Rattle.laws.specs.Inclusion.{In}
use Rattle.laws.proofs.ListLaws.{of-any, in_any, of-select, in_select, of-upto, in_upto, and_true, true_and, from-length, from-get_or}
use Rattle.laws.proofs.WordLaws.{bit-union, pow_self, pow-only}
use Rattle.laws.proofs.DomainLaws.{same-variable, variable_same}

-- ---- a word of the numbers from i on

module _ (i : ℕ) (js : List ℕ) where
  -- the numbers that it has room for
  abbrev room : ℕ → Bool
  room j = leb i j && ltb j (i + 64)

  pub of-word_from : (b : ℕ) → bit (word_from i js) b ≡ true → (b < 64) × In (i + b) js
  unfolding word_from
  of-word_from b e =
      let w = of-any (λ w. bit w b) (map (λ j. 2 ^ (j - i)) (select room js)) (sym (bit-union (map (λ j. 2 ^ (j - i)) (select room js)) b) ∙ e) in
      let n = Memᴰ.of_map (λ j. 2 ^ (j - i)) (select room js) w.1 in
      let m = of-select room js n.1 in
      let t = and_true (leb i n.0) (ltb n.0 (i + 64)) m.1 in
      let low : i ≤ n.0 = leb-true i n.0 t.0 in
      let high : n.0 < i + 64 = ltb-true n.0 (i + 64) t.1 in
      let q : b ≡ n.0 - i = pow-only (n.0 - i) b (ap (λ (x : ℕ). bit x b) n.2 ∙ w.2) in
      let k : n.0 ≡ i + b = omega arith in
      (omega arith, subst (λ (x : ℕ). In x js) k m.0)

  pub in_word_from : (b : ℕ) → b < 64 → In (i + b) js → bit (word_from i js) b ≡ true
  unfolding word_from
  in_word_from b h m =
      let low : leb i (i + b) ≡ true = le-leb i (i + b) (omega arith) in
      let high : ltb (i + b) (i + 64) ≡ true = lt-ltb (i + b) (i + 64) (omega arith) in
      let k : i + b - i ≡ b = omega arith in
      let there : bit (2 ^ (i + b - i)) b ≡ true = ap (λ (x : ℕ). bit (2 ^ x) b) k ∙ pow_self b in
      bit-union (map (λ j. 2 ^ (j - i)) (select room js)) b
      ∙ in_any (λ w. bit w b) (Memᴰ.map (λ j. 2 ^ (j - i)) (in_select room m (true_and low high))) there

-- ---- the steps that touch a variable

module _ (P : Problem) where
  -- the steps by their numbers: constraints, then trimmings
  pub step_at-constraint : (j : ℕ) → j < length P.constraints → step_at P j ≡ get_or P.constraints j (always 0)
  unfolding step_at
  step_at-constraint j h = rw (lt-ltb j (length P.constraints) h)

  pub step_at_trimming : (x : ℕ) → step_at P (length P.constraints + x) ≡ always x
  unfolding step_at
  step_at_trimming x =
      let c = length P.constraints in
      let past : ltb (c + x) c ≡ false = le-ltb (c + x) c (omega arith) in
      let back : c + x - c ≡ x = omega arith in
      rw (past, back)

  pub of-step_touches : (j : ℕ) (v : Variable) → step_touches P j v ≡ true → In v (variables (step_at P j))
  unfolding step_touches
  of-step_touches j v e =
      let t = of-any (same_variable v) (variables (step_at P j)) e in
      subst (λ (u : Variable). In u (variables (step_at P j))) (sym (same-variable v t.0 t.2)) t.1

  pub in_step_touches : (j : ℕ) (v : Variable) → In v (variables (step_at P j)) → step_touches P j v ≡ true
  unfolding step_touches
  in_step_touches j v m = in_any (same_variable v) m (variable_same v v refl)

  pub of-touching : (v : Variable) (j : ℕ) → In j (touching P v) → (j < step_count P) × In v (variables (step_at P j))
  unfolding touching
  of-touching v j m =
      let t = of-select (λ j. step_touches P j v) (upto (step_count P)) m in
      (of-upto (step_count P) t.0, of-step_touches j v t.1)

  pub in_touching : (v : Variable) (j : ℕ) → j < step_count P → In v (variables (step_at P j)) → In j (touching P v)
  unfolding touching
  in_touching v j h m = in_select (λ j. step_touches P j v) (in_upto (step_count P) j h) (in_step_touches j v m)

-- ---- lists of n elements each, one after the other

module _ {A B : Type 0} (f : A → List B) (n : ℕ) (h : (x : A) → length (f x) ≡ n) where
  blocks_length : (xs : List A) → length (flat_map f xs) ≡ n * length xs
  unfolding flat_map
  blocks_length [] = omega arith
  blocks_length (x ∷ xs) = omega (arith, length-append (f x) (flat_map f xs), h x, blocks_length xs, mul-suc n (length xs))

  blocks_get_or : (xs : List A) (i j : ℕ) (a : A) (d : B) → i < length xs → j < n → get_or (flat_map f xs) (n * i + j) d ≡ get_or (f (get_or xs i a)) j d
  unfolding flat_map
  blocks_get_or [] i j a d l k = absurd (omega arith)
  blocks_get_or (x ∷ xs) zero j a d l k =
      let e : n * 0 + j ≡ j = omega arith in
      ap (λ (m : ℕ). get_or (f x ++ flat_map f xs) m d) e ∙ get_or-append (f x) (flat_map f xs) d j (omega (arith, h x))
  blocks_get_or (x ∷ xs) (suc i) j a d l k =
      let e : n * suc i + j ≡ length (f x) + (n * i + j) = omega (arith, h x, mul-suc n i) in
      ap (λ (m : ℕ). get_or (f x ++ flat_map f xs) m d) e ∙ get_or-append-add (f x) (flat_map f xs) (n * i + j) d ∙ blocks_get_or xs i j a d (omega arith) k

-- ---- the words of the index

module _ (P : Problem) where
  pair-length : (v : Variable) → length (pair P v) ≡ 2
  unfolding pair
  pair-length v = refl

  pair-word : (v : Variable) (h : ℕ) → h < 2 → word (pair P v) h ≡ word_from (64 * h) (touching P v)
  unfolding pair
  pair-word v zero l = refl
  pair-word v (suc zero) l = refl
  pair-word v (suc (suc h)) l = absurd (omega arith)

  -- the variables by their numbers: strings, then numbers
  strings-length : length (map str (upto P.strings)) ≡ P.strings
  unfolding upto
  strings-length = length-map (upto P.strings) str ∙ from-length 0 P.strings

  pub variables-length : length (variables_of P) ≡ P.strings + P.numbers
  unfolding variables_of upto
  variables-length =
      omega (
        arith,
        length-append (map str (upto P.strings)) (map num (upto P.numbers)),
        strings-length,
        length-map (upto P.numbers) num,
        from-length 0 P.numbers,
      )

  pub variables-string : (x : ℕ) → x < P.strings → get_or (variables_of P) x (str 0) ≡ str x
  unfolding variables_of upto
  variables-string x h =
      let e : 0 + x ≡ x = omega arith in
      get_or-append (map str (upto P.strings)) (map num (upto P.numbers)) (str 0) x (omega (arith, strings-length))
      ∙ from-get_or str 0 P.strings x (str 0) h ∙ ap str e

  pub variables-number : (n : ℕ) → n < P.numbers → get_or (variables_of P) (P.strings + n) (str 0) ≡ num n
  unfolding variables_of upto
  variables-number n h =
      let e : 0 + n ≡ n = omega arith in
      ap (λ (k : ℕ). get_or (variables_of P) (k + n) (str 0)) (sym strings-length)
      ∙ get_or-append-add (map str (upto P.strings)) (map num (upto P.numbers)) n (str 0) ∙ from-get_or num 0 P.numbers n (str 0) h ∙ ap num e

  pub index-length : length (index_of P) ≡ 2 * (P.strings + P.numbers)
  unfolding index_of
  index-length = blocks_length (pair P) 2 pair-length (variables_of P) ∙ ap (λ (n : ℕ). 2 * n) variables-length

  -- two words for variable i
  pub index-pair : (i h : ℕ) → i < P.strings + P.numbers → h < 2 → word (index_of P) (2 * i + h) ≡ word_from (64 * h) (touching P (get_or (variables_of P) i (str 0)))
  unfolding index_of
  index-pair i h l k = blocks_get_or (pair P) 2 pair-length (variables_of P) i h (str 0) 0 (omega (arith, variables-length)) k ∙ pair-word (get_or (variables_of P) i (str 0)) h k

  pub index-string : (x h : ℕ) → x < P.strings → h < 2 → word (index_of P) (2 * x + h) ≡ word_from (64 * h) (touching P (str x))
  index-string x h l k = index-pair x h (omega arith) k ∙ ap (λ (v : Variable). word_from (64 * h) (touching P v)) (variables-string x l)

  pub index_number : (n h : ℕ) → n < P.numbers → h < 2 → word (index_of P) (2 * (P.strings + n) + h) ≡ word_from (64 * h) (touching P (num n))
  index_number n h l k = index-pair (P.strings + n) h (omega arith) k ∙ ap (λ (v : Variable). word_from (64 * h) (touching P v)) (variables-number n l)
