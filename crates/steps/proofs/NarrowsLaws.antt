-- A relation's step in place is a step of the whole table: what it makes of the rows and words that it names, it makes of the variables of a problem. One law
-- for every kind, over the lists of the positions that it names. Assumes nothing.
use Rattle.std.specs.Prelude.{Option}
use mathlib.Core.Path.{◌≡◌, refl, sym, ap, subst, ◌∙◌}
use mathlib.Core.Logic.{◌≢◌}
use mathlib.Core.Bool.{Bool, true, false, false≢true}
use mathlib.Core.List.Memᴰ
use mathlib.Core.List.{List, [], ◌∷◌, ◌++◌, map, map-map}
use Prim.Native.Nat.{ℕ, ◌+◌, ◌-◌, ◌*◌, ◌<◌, ◌≤◌}
use native.Mathlib.Omega.{arith}
use lib.Dec.{eqb, ltb}
use lib.ListN.{length, get_or, replicate, length-map, length-append, length-replicate, get_or-replicate, get_or-append}
use lib.Seq.{ext_get_or, get_or-append-add}
use borrow.Author.Tests.{ltb-true, ltb-false, eqb-true, eqb-false}
use Rattle.model.specs.Words.{word}
use Rattle.model.specs.Domains.{Variable, str, num, row, owner}
use Rattle.model.specs.Constraints.{Problem, Constraint, Automaton, width, variables}
use Rattle.model.specs.Support.{touches, narrowed}
use Rattle.laws.specs.Inclusion.{In}
use Rattle.laws.proofs.ListLaws.{get_or_in, not_false, not_true, get_d_map}
use Rattle.laws.proofs.DomainLaws.{row-length, row_word, by_word, owner-text, owner-value, str≢num}
use Rattle.laws.proofs.SupportLaws.{touched-text, touched-value}
use Rattle.shortcuts.specs.Waiting.{Unchanged}
use Rattle.rows.specs.Rows.{alone}
use Rattle.rows.proofs.Alone.{together}
use Rattle.rows.proofs.NamedLaws.{Named}
use Rattle.inplace.specs.declared.Changed.{Changed}
use Rattle.inplace.specs.InTable.{Out}
use Rattle.inplace.specs.InPlace.{InPlace, left, flag, taken}
use Rattle.inplace.proofs.Narrowing.{in_place, in_place-rows}
use Rattle.steps.specs.Step.{cleared, Narrows}
use Rattle.steps.proofs.ClearLaws.{cleared-length, cleared-touched, cleared-other}

-- ---- members of the lists

same-str : {x y : ℕ} → str x ≡ str y → x ≡ y
same-str e = cc

same-num : {x y : ℕ} → num x ≡ num y → x ≡ y
same-num e = cc

pub str_in : (xs ms : List ℕ) (x : ℕ) → In (str x) (map str xs ++ map num ms) → In x xs
str_in [] ms x m = let t = Memᴰ.of_map num ms m in absurd (str≢num (sym t.2))
str_in (y ∷ xs) ms x (Memᴰ.head e) = Memᴰ.head (same-str e)
str_in (y ∷ xs) ms x (Memᴰ.tail m) = Memᴰ.tail (str_in xs ms x m)

pub num_in : (xs ms : List ℕ) (m : ℕ) → In (num m) (map str xs ++ map num ms) → In m ms
num_in [] ms m k = let t = Memᴰ.of_map num ms k in subst (λ (v : ℕ). In v ms) (same-num t.2) t.1
num_in (x ∷ xs) ms m (Memᴰ.head e) = absurd (str≢num (sym e))
num_in (x ∷ xs) ms m (Memᴰ.tail k) = num_in xs ms m k

-- ---- the step

module _ (P : Problem) (c d : Constraint) (ds : List Automaton) (xs ms : List ℕ) (n : Named P c d ds xs ms) (vc : variables c ≡ map str xs ++ map num ms) (T U : List ℕ) (ln : length T ≡ width P)
    (r : Option Changed) (s : InPlace ds d xs (map (λ m. 64 * P.strings + m) ms) T U r) where
  abbrev at-word : ℕ → ℕ
  at-word m = 64 * P.strings + m

  lm : length (map at-word ms) ≡ length ms
  lm = length-map ms at-word

  -- words of no variable that is named
  out_text : (k : ℕ) → touches P c k ≡ false → (x : ℕ) → In x xs → Out x k
  out_text k u x m j h q = let t = n.texts x m in false≢true (sym u ∙ ap (touches P c) q ∙ touched-text P c x j t.0 h t.1)

  out_value : (k : ℕ) → touches P c k ≡ false → (m : ℕ) → In m ms → k ≢ at-word m
  out_value k u m h q = false≢true (sym u ∙ ap (touches P c) q ∙ touched-value P c m (n.values m h).1)

  others : (k : ℕ) → ((x : ℕ) → In x xs → Out x k) → ((m : ℕ) → In m ms → k ≢ at-word m) → word U k ≡ word T k
  others k f g = s.others k f (λ i h q. let t = Memᴰ.of_map at-word ms h in g t.0 t.1 (q ∙ sym t.2))

  words_same : (W : List ℕ) → map (word W) (map at-word ms) ≡ map (λ m. word W (at-word m)) ms
  words_same W = map-map (word W) at-word ms

  -- what is taken out, with the words of numbers by their names
  taken-same : (W : List ℕ) → taken xs (map at-word ms) W ≡ together (map (row W) xs) (map (λ m. word W (at-word m)) ms)
  taken-same W = ap (λ (l : List ℕ). together (map (row W) xs) l) (words_same W)

  small_same : (N : List ℕ) → N ≡ narrowed (alone (length xs) (length (map at-word ms)) ds) d (taken xs (map at-word ms) T)
      → N ≡ narrowed (alone (length xs) (length ms) ds) d (together (map (row T) xs) (map (λ m. word T (at-word m)) ms))
  small_same N e = e ∙ ap (λ (l : List ℕ). narrowed (alone (length xs) (length (map at-word ms)) ds) d l) (taken-same T)
      ∙ ap (λ (k : ℕ). narrowed (alone (length xs) k ds) d (together (map (row T) xs) (map (λ m. word T (at-word m)) ms))) lm

  done : left r ≡ true → U ≡ narrowed P c T
  done q = in_place P c d ds xs ms n T U ln s.size (sym (taken-same U) ∙ small_same _ (s.done q)) others

  -- ---- no choice

  zero_row : (N x : ℕ) → 64 * x + 64 ≤ N → (j : ℕ) → j < 64 → word (row (replicate N 0) x) j ≡ 0
  zero_row N x h j k = row_word (replicate N 0) x j k ∙ get_or-replicate N (64 * x + j) 0 0 (omega arith)

  none : left r ≡ false → cleared P c U ≡ narrowed P c T
  none q = in_place-rows P c d ds xs ms n T (cleared P c U) ln (cleared-length P c U ∙ s.size) rows values away
    where
      z : replicate (64 * length xs + length (map at-word ms)) 0 ≡ narrowed (alone (length xs) (length ms) ds) d (together (map (row T) xs) (map (λ m. word T (at-word m)) ms))
      z = small_same _ (s.none q)

      lU : length U ≡ width P
      lU = s.size ∙ ln

      rows : (x : ℕ) → x < length xs → row (cleared P c U) (get_or xs x 0) ≡ row (narrowed (alone (length xs) (length ms) ds) d (together (map (row T) xs) (map (λ m. word T (at-word m)) ms))) x
      rows x h =
          let t = n.texts (get_or xs x 0) (get_or_in xs x 0 h) in
          let k = t.0 in
          let l = lU in
          let N : ℕ = 64 * length xs + length (map at-word ms) in
          let zs : List ℕ = replicate N 0 in
          let lN : length zs ≡ N = length-replicate N 0 in
          let a : length (row (cleared P c U) (get_or xs x 0)) ≡ 64 = row-length (cleared P c U) (get_or xs x 0) (omega (arith, cleared-length P c U)) in
          let b : length (row zs x) ≡ 64 = row-length zs x (omega arith) in
          ext_get_or 0 (row (cleared P c U) (get_or xs x 0)) (row zs x) (a ∙ sym b) (λ j g.
          let jj : j < 64 = omega arith in
          row_word (cleared P c U) (get_or xs x 0) j jj ∙ cleared-touched P c U (64 * get_or xs x 0 + j) (omega arith) (touched-text P c (get_or xs x 0) j k jj t.1) ∙ sym (zero_row N x (omega arith) j jj))
          ∙ ap (λ (W : List ℕ). row W x) z

      values : (x : ℕ) → x < length ms → word (cleared P c U) (64 * P.strings + get_or ms x 0)
          ≡ word (narrowed (alone (length xs) (length ms) ds) d (together (map (row T) xs) (map (λ m. word T (at-word m)) ms))) (64 * length xs + x)
      values x h =
          let t = n.values (get_or ms x 0) (get_or_in ms x 0 h) in
          let k = t.0 in
          let l = lU in
          let e = lm in
          cleared-touched P c U (64 * P.strings + get_or ms x 0) (omega arith) (touched-value P c (get_or ms x 0) t.1)
          ∙ sym (get_or-replicate (64 * length xs + length (map at-word ms)) (64 * length xs + x) 0 0 (omega arith)) ∙ ap (λ (W : List ℕ). word W (64 * length xs + x)) z

      away : (k : ℕ) → k < length T → touches P c k ≡ false → word (cleared P c U) k ≡ word T k
      away k h u = let e = s.size in cleared-other P c U k (omega arith) u ∙ others k (out_text k u) (out_value k u)

  -- ---- flags

  -- a row that is the same has the same words
  row-unchanged : (x : ℕ) → x < P.strings → row U x ≡ row T x → Unchanged P T U (str x)
  row-unchanged x h e = by_word P.strings (λ k. owner P.strings k ≡ str x → word T k ≡ word U k)
      (λ y j g l o.
      let q : y ≡ x = same-str (sym (owner-text P.strings y j g l) ∙ o) in
      let f : row U y ≡ row T y = subst (λ (z : ℕ). row U z ≡ row T z) (sym q) e in
      sym (row_word T y j l) ∙ ap (λ (w : List ℕ). word w j) (sym f) ∙ row_word U y j l)
      (λ m o. absurd (str≢num (sym o ∙ owner-value P.strings m)))

  number-unchanged : (m : ℕ) → word T (at-word m) ≡ word U (at-word m) → Unchanged P T U (num m)
  number-unchanged m e = by_word P.strings (λ k. owner P.strings k ≡ num m → word T k ≡ word U k)
      (λ y j g l o. absurd (str≢num (sym (owner-text P.strings y j g l) ∙ o)))
      (λ k o. let q : k ≡ m = same-num (sym (owner-value P.strings k) ∙ o) in subst (λ (z : ℕ). word T (at-word z) ≡ word U (at-word z)) (sym q) e)

  names-text : (i : ℕ) → i < length xs → get_or (variables c) i (str 0) ≡ str (get_or xs i 0)
  names-text i h =
      ap (λ (l : List Variable). get_or l i (str 0)) vc ∙ get_or-append (map str xs) (map num ms) (str 0) i (omega (arith, length-map xs str)) ∙ get_d_map str xs i 0 (str 0) h

  names-number : (i : ℕ) → i < length ms → get_or (variables c) (length xs + i) (str 0) ≡ num (get_or ms i 0)
  names-number i h =
      let e : length xs + i ≡ length (map str xs) + i = omega (arith, length-map xs str) in
      ap (λ (l : List Variable). get_or l (length xs + i) (str 0)) vc ∙ ap (λ (k : ℕ). get_or (map str xs ++ map num ms) k (str 0)) e
      ∙ get_or-append-add (map str xs) (map num ms) i (str 0) ∙ get_d_map num ms i 0 (str 0) h

  names-length : length (variables c) ≡ length xs + length ms
  names-length = ap length vc ∙ omega (arith, length-append (map str xs) (map num ms), length-map xs str, length-map ms num)

  word_at : (W : List ℕ) (i : ℕ) → i < length ms → word W (get_or (map at-word ms) i 0) ≡ word W (at-word (get_or ms i 0))
  word_at W i h = ap (word W) (get_d_map at-word ms i 0 0 h)

  unchanged : left r ≡ true → (i : ℕ) (v : Variable) → i < length (variables c) → get_or (variables c) i (str 0) ≡ v → flag i r ≡ false → Unchanged P T U v
  unchanged q i v h e f = go (ltb i (length xs)) refl
    where
      go : (t : Bool) → ltb i (length xs) ≡ t → Unchanged P T U v
      go true t =
          let k = ltb-true i (length xs) t in
          subst (Unchanged P T U) (sym (names-text i k) ∙ e) (row-unchanged (get_or xs i 0) (n.texts (get_or xs i 0) (get_or_in xs i 0 k)).0 ((s.rows q i k).same f))
      go false t =
          let k = ltb-false i (length xs) t in
          let j : i - length xs < length ms = omega (arith, names-length) in
          let z : length xs + (i - length xs) ≡ i = omega arith in
          let w = s.numbers q (i - length xs) (omega (arith, lm)) in
          let b = not_false (eqb (word T (get_or (map at-word ms) (i - length xs) 0)) (word U (get_or (map at-word ms) (i - length xs) 0))) (sym w ∙ ap (λ (y : ℕ). flag y r) z ∙ f) in
          subst (Unchanged P T U) (sym (names-number (i - length xs) j) ∙ ap (λ (y : ℕ). get_or (variables c) y (str 0)) z ∙ e)
          (number-unchanged (get_or ms (i - length xs) 0) (sym (word_at T (i - length xs) j) ∙ eqb-true _ _ b ∙ word_at U (i - length xs) j))

  changed : left r ≡ true → (i : ℕ) → flag i r ≡ true → U ≢ T
  changed q i f e = go (ltb i (length xs)) (ltb i (length xs + length ms)) refl refl
    where
      go : (t u : Bool) → ltb i (length xs) ≡ t → ltb i (length xs + length ms) ≡ u → ⊥
      go true u t g = (s.rows q i (ltb-true i (length xs) t)).differ f (ap (λ (W : List ℕ). row W (get_or xs i 0)) e)
      go false true t g =
          let k = ltb-false i (length xs) t in
          let l = ltb-true i (length xs + length ms) g in
          let z : length xs + (i - length xs) ≡ i = omega arith in
          let w = s.numbers q (i - length xs) (omega (arith, lm)) in
          let b = not_true (eqb (word T (get_or (map at-word ms) (i - length xs) 0)) (word U (get_or (map at-word ms) (i - length xs) 0))) (sym w ∙ ap (λ (y : ℕ). flag y r) z ∙ f) in
          eqb-false _ _ b (ap (λ (W : List ℕ). word W (get_or (map at-word ms) (i - length xs) 0)) (sym e))
      go false false t g =
          let l = ltb-false i (length xs + length ms) g in
          false≢true (sym (s.no_more q i (omega (arith, lm))) ∙ f)

  pub narrows : Narrows P c T U r
  narrows = record {
    size = s.size;
    others = λ k u. others k (out_text k u) (out_value k u);
    table = done;
    tidy = λ q x m. s.tidy q x (str_in xs ms x (subst (λ (l : List Variable). In (str x) l) vc m));
    unchanged = unchanged;
    changed = changed;
    none = none;
  }
