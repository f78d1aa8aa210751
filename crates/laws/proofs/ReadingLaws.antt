-- Laws of reading: what a file that is accepted holds. Assumes nothing.
use mathlib.Core.Path.{◌≡◌, refl, sym, ap, subst, ◌∙◌}
use mathlib.Core.Bool.{Bool, true, false}
use mathlib.Core.List.Memᴰ
use mathlib.Core.List.{List, [], ◌∷◌, map}
use mathlib.Core.Option.{some, none-ne-some, some-injective}
use Prim.Native.Nat.{ℕ, zero, suc, ◌+◌, ◌-◌, ◌*◌, ◌^◌, ◌<◌}
use native.Mathlib.Omega.{arith}
use native.Mathlib.Nat.{pow-suc, suc-mul, zero-mul}
use lib.Dec.{ltb}
use lib.ListN.{length, get_or, take, drop, get_elem?, length-map, get_or-map}
use lib.Seq.{get_or-drop, drop-drop, get_or-take}
use borrow.Author.Tests.{ltb-true, not-true, eq-eqb}
use Rattle.model.specs.Words.{bit, word, Words}
use Rattle.model.specs.Domains.{Variable, str, num}
use Rattle.model.specs.Constraints.{Problem, Constraint, always, eq, neq, rev, cat, sub, len, regular, variables, width}
use Rattle.model.specs.Solutions.{InRange, WellFormed}
use Rattle.model.specs.Replies.{answered}
use Rattle.model.specs.Layout.{Bytes, little, part, back, Parts, trailer, table_words, layout}
use Rattle.model.specs.Reading.{pieces, string, number, names, Kind, kinds, kind_of, decode, repeats, Accepted, problem_of, reading}
use Rattle.laws.specs.Inclusion.{In}
use Rattle.laws.specs.Lent.{lendable}
use Rattle.laws.proofs.ListLaws.{given-some, bind-some, collect_in, and_true, true_and}
use Rattle.laws.proofs.CollectLaws.{any_false}
use Rattle.laws.proofs.WordLaws.{bit_high}
use Rattle.laws.proofs.ReplyLaws.{require-answered, obtain-answered, and_then-answered, answered_inj}

-- ---- numbers made of bytes

pow-positive : (n : ℕ) → 0 < 256 ^ n
pow-positive zero = omega arith
pow-positive (suc n) = let r = pow-positive n in let q : 256 ^ suc n ≡ 256 ^ n * 256 = pow-suc 256 n in omega arith

pub little_lt : (n : ℕ) (bs : List ℕ) → Bytes bs → little (take n bs) < 256 ^ n
unfolding little
little_lt zero bs h = omega arith
little_lt (suc n) [] h = pow-positive (suc n)
little_lt (suc n) (b ∷ bs) h =
    let r = little_lt n bs (λ j. h (suc j)) in
    let k : b < 256 = h 0 in
    let q : 256 ^ suc n ≡ 256 ^ n * 256 = pow-suc 256 n in
    omega arith

pub drop-bytes : (n : ℕ) (bs : List ℕ) → Bytes bs → Bytes (drop n bs)
drop-bytes n bs h j = subst (λ (x : ℕ). x < 256) (sym (get_or-drop n bs j 0)) (h (n + j))

pub take-bytes : (n : ℕ) (bs : List ℕ) → Bytes bs → Bytes (take n bs)
take-bytes zero bs h j = omega arith
take-bytes (suc n) [] h j = h j
take-bytes (suc n) (b ∷ bs) h zero = h 0
take-bytes (suc n) (b ∷ bs) h (suc j) = take-bytes n bs (λ i. h (suc i)) j

pieces_lt : (m n : ℕ) (bs : List ℕ) → Bytes bs → (i : ℕ) → little (get_or (pieces m n bs) i []) < 256 ^ n
unfolding pieces little
pieces_lt zero n bs h i = pow-positive n
pieces_lt (suc m) n bs h zero = little_lt n bs h
pieces_lt (suc m) n bs h (suc i) = pieces_lt m n (drop n bs) (drop-bytes n bs h) i

pub pieces-length : (m n : ℕ) (bs : List ℕ) → length (pieces m n bs) ≡ m
unfolding pieces
pieces-length zero n bs = refl
pieces-length (suc m) n bs = ap suc (pieces-length m n (drop n bs))

pub pieces-at : (m n : ℕ) (bs : List ℕ) (i : ℕ) → i < m → get_or (pieces m n bs) i [] ≡ take n (drop (i * n) bs)
unfolding pieces
pieces-at zero n bs i h = absurd (omega arith)
pieces-at (suc m) n bs zero h = let e : 0 ≡ 0 * n = omega (arith, zero-mul n) in ap (λ (j : ℕ). take n (drop j bs)) e
pieces-at (suc m) n bs (suc i) h =
    let e : n + i * n ≡ suc i * n = omega (arith, suc-mul i n) in
    pieces-at m n (drop n bs) i (omega arith) ∙ ap (take n) (drop-drop (i * n) n bs) ∙ ap (λ (j : ℕ). take n (drop j bs)) e

pub pieces-word : (m n : ℕ) (bs : List ℕ) (i j : ℕ) → i < m → j < n → get_or (get_or (pieces m n bs) i []) j 0 ≡ get_or bs (i * n + j) 0
pieces-word m n bs i j h l = ap (λ (p : List ℕ). get_or p j 0) (pieces-at m n bs i h) ∙ get_or-take n (drop (i * n) bs) j 0 l ∙ get_or-drop (i * n) bs j 0

-- the table that m pieces of eight bytes make: its length, and its word i
pub table-length : (m : ℕ) (bs : List ℕ) → length (map little (pieces m 8 bs)) ≡ m
table-length m bs = length-map (pieces m 8 bs) little ∙ pieces-length m 8 bs

pub table-word : (m : ℕ) (bs : List ℕ) (i : ℕ) → i < m → word (map little (pieces m 8 bs)) i ≡ little (part (8 * i) 8 bs)
unfolding little
table-word m bs i h =
    let e : i * 8 ≡ 8 * i = omega arith in
    get_or-map little (pieces m 8 bs) i [] ∙ ap little (pieces-at m 8 bs i h ∙ ap (λ (j : ℕ). part j 8 bs) e)

-- the bytes from word j on make the words from j on
pub table-drop : (j m : ℕ) (bs : List ℕ) → map little (pieces m 8 (drop (8 * j) bs)) ≡ drop j (map little (pieces (j + m) 8 bs))
unfolding pieces little
table-drop zero m bs = let e : 0 + m ≡ m = omega arith in ap (λ (n : ℕ). map little (pieces n 8 bs)) (sym e)
table-drop (suc j) m bs =
    let e : 8 * suc j ≡ 8 + 8 * j = omega arith in
    let d : suc j + m ≡ suc (j + m) = omega arith in
    ap (λ (b : List ℕ). map little (pieces m 8 b)) (ap (λ (i : ℕ). drop i bs) e ∙ sym (drop-drop (8 * j) 8 bs)) ∙ table-drop j m (drop 8 bs)
    ∙ ap (λ (n : ℕ). drop (suc j) (map little (pieces n 8 bs))) (sym d)

words-pieces : (m : ℕ) (bs : List ℕ) → Bytes bs → Words (map little (pieces m 8 bs))
unfolding little
words-pieces m bs h i b q =
    let e : word (map little (pieces m 8 bs)) i ≡ little (get_or (pieces m 8 bs) i []) = get_or-map little (pieces m 8 bs) i [] in
    bit_high (little (get_or (pieces m 8 bs) i [])) 64 b (pieces_lt m 8 bs h i) (ap (λ (w : ℕ). bit w b) (sym e) ∙ q)

-- ---- what the constraints name

get_elem_in : {A : Type 0} (l : List A) (n : ℕ) (x : A) → get_elem? l n ≡ some x → In x l
get_elem_in [] n x e = absurd (none-ne-some x e)
get_elem_in (y ∷ l) zero x e = Memᴰ.head (sym (some-injective y x e))
get_elem_in (y ∷ l) (suc n) x e = Memᴰ.tail (get_elem_in l n x e)

-- all of these are variables of the problem
record Named (P : Problem) (vs : List Variable) : Type 0 where
  in_range : (v : Variable) → In v vs → InRange P v

-- the automaton that a constraint names is one of the first d
unfoldable pub machine_below : ℕ → Constraint → Bool
machine_below d (always x) = true
machine_below d (eq x y) = true
machine_below d (neq x y) = true
machine_below d (rev x y) = true
machine_below d (cat x y z) = true
machine_below d (sub x y n) = true
machine_below d (len x n) = true
machine_below d (regular x i) = ltb i d

-- everything that a constraint names is there
record Made (P : Problem) (d : ℕ) (c : Constraint) : Type 0 where
  named : Named P (variables c)
  machine-there : machine_below d c ≡ true

module _ (P : Problem) (d : ℕ) where
  named-nil : Named P []
  named-nil = record { in_range = λ v m. elim m [ ] }

  named-str : {x : ℕ} {vs : List Variable} → x < P.strings → Named P vs → Named P (str x ∷ vs)
  named-str h r = record { in_range = λ v m. elim m [ Memᴰ.head e ↦ subst (InRange P) (sym e) h | Memᴰ.tail k ↦ r.in_range v k ] }

  named-num : {n : ℕ} {vs : List Variable} → n < P.numbers → Named P vs → Named P (num n ∷ vs)
  named-num h r = record { in_range = λ v m. elim m [ Memᴰ.head e ↦ subst (InRange P) (sym e) h | Memᴰ.tail k ↦ r.in_range v k ] }

  -- where its arguments name something, so does the constraint of a kind
  Sorted : Kind → Type 0
  Sorted κ = (x y z : ℕ) → names P.strings P.numbers d κ.first x ≡ true → names P.strings P.numbers d κ.second y ≡ true
      → names P.strings P.numbers d κ.third z ≡ true → Made P d (κ.make x y z)

  a-string : (x : ℕ) → names P.strings P.numbers d string x ≡ true → x < P.strings
  unfolding names
  a-string x e = ltb-true x P.strings e

  a-number : (x : ℕ) → names P.strings P.numbers d number x ≡ true → x < P.numbers
  unfolding names
  a-number x e = ltb-true x P.numbers e

  kinds_sorted : (κ : Kind) → In κ kinds → Sorted κ
  unfolding kinds Sorted variables machine_below names
  kinds_sorted κ m = go m
    where
      two : (x y : ℕ) → x < P.strings → y < P.strings → Named P (str x ∷ str y ∷ [])
      two x y p q = named-str p (named-str q named-nil)

      at : (λs : Kind) → κ ≡ λs → Sorted λs → Sorted κ
      at λs e h = subst Sorted (sym e) h

      go : In κ kinds → Sorted κ
      go (Memᴰ.head e) = at _ e (λ x y z p q r. record { named = two x y (a-string x p) (a-string y q); machine-there = refl })
      go (Memᴰ.tail (Memᴰ.head e)) = at _ e (λ x y z p q r. record { named = two x y (a-string x p) (a-string y q); machine-there = refl })
      go (Memᴰ.tail (Memᴰ.tail (Memᴰ.head e))) = at _ e (λ x y z p q r. record { named = two x y (a-string x p) (a-string y q); machine-there = refl })
      go (Memᴰ.tail (Memᴰ.tail (Memᴰ.tail (Memᴰ.head e)))) =
          at _ e (λ x y z p q r. record { named = named-str (a-string x p) (named-str (a-string y q) (named-str (a-string z r) named-nil)); machine-there = refl })
      go (Memᴰ.tail (Memᴰ.tail (Memᴰ.tail (Memᴰ.tail (Memᴰ.head e))))) =
          at _ e (λ x y z p q r. record { named = named-str (a-string x p) (named-str (a-string y q) (named-num (a-number z r) named-nil)); machine-there = refl })
      go (Memᴰ.tail (Memᴰ.tail (Memᴰ.tail (Memᴰ.tail (Memᴰ.tail (Memᴰ.head e)))))) =
          at _ e (λ x y z p q r. record { named = named-str (a-string x p) (named-num (a-number y q) named-nil); machine-there = refl })
      go (Memᴰ.tail (Memᴰ.tail (Memᴰ.tail (Memᴰ.tail (Memᴰ.tail (Memᴰ.tail (Memᴰ.head e))))))) =
          at _ e (λ x y z p q r. record { named = named-str (a-string x p) named-nil; machine-there = q })
      go (Memᴰ.tail (Memᴰ.tail (Memᴰ.tail (Memᴰ.tail (Memᴰ.tail (Memᴰ.tail (Memᴰ.tail m))))))) = absurd (Memᴰ.not-nil m)

  kind_of_in : (n : ℕ) (κ : Kind) → kind_of n ≡ some κ → In κ kinds
  unfolding kind_of
  kind_of_in zero κ e = absurd (none-ne-some κ e)
  kind_of_in (suc n) κ e = get_elem_in kinds n κ e

  decode-made : (r : List ℕ) (c : Constraint) → decode P.strings P.numbers d r ≡ some c → Made P d c
  unfolding decode Sorted
  decode-made r c e =
      let u = bind-some (kind_of (get_or r 0 0)) _ c e in
      let g = given-some _ _ c u.2 in
      let t = and_true _ _ g.0 in
      let w = and_true _ _ t.0 in
      subst (Made P d) (sym g.1) (kinds_sorted u.0 (kind_of_in (get_or r 0 0) u.0 u.1) (get_or r 1 0) (get_or r 2 0) (get_or r 3 0) w.0 w.1 t.1)

  pub decode_range : (r : List ℕ) (c : Constraint) → decode P.strings P.numbers d r ≡ some c → (v : Variable) → In v (variables c) → InRange P v
  decode_range r c e = (decode-made r c e).named.in_range

  pub decode-machine : (r : List ℕ) (x i : ℕ) → decode P.strings P.numbers d r ≡ some (regular x i) → i < d
  unfolding machine_below
  decode-machine r x i e = ltb-true i d (decode-made r (regular x i) e).machine-there

-- ---- what an accepted file holds

pub record Sound (a : Accepted) : Type 0 where
  -- its constraints name variables of the problem
  pub well_formed : WellFormed a.problem
  -- none of them names a string twice
  pub distinct : (c : Constraint) → In c a.problem.constraints → repeats (variables c) ≡ false
  -- its table has 64-bit words
  pub words : Words a.table
  -- and could be lent for its own problem
  pub own-table : lendable a.problem a.table ≡ true

pub problem_of-sound : (p : Parts) → Bytes p.table_bytes → (a : Accepted) → problem_of p ≡ answered a → Sound a
unfolding problem_of lendable
problem_of-sound p bytes a e =
    let F : List ℕ = map little (pieces (64 * p.strings + p.numbers) 8 p.table_bytes) in
    let t₅ = obtain-answered _ 5 _ a e in
    let t₆ = require-answered _ 6 _ a t₅.2 in
    let t₇ = obtain-answered _ 7 _ a t₆.1 in
    let t₈ = require-answered _ 8 _ a t₇.2 in
    let P : Problem = record { symbols = p.symbols; strings = p.strings; numbers = p.numbers; constraints = t₇.0; automata = t₅.0 } in
    let q : record { problem = P; table = F } ≡ a = answered_inj t₈.1 in
    subst Sound q (record {
      well_formed = λ c m. let u = collect_in _ _ t₇.0 t₇.1 c m in decode_range P p.automata u.0 c u.1;
      distinct = λ c m. any_false (λ c. repeats (variables c)) (not-true _ t₈.0) m;
      words = words-pieces (64 * p.strings + p.numbers) p.table_bytes bytes;
      own-table = true_and (eq-eqb (length F) (width P) (table-length (64 * p.strings + p.numbers) p.table_bytes)) t₆.0;
    })

back-bytes : (file : List ℕ) → Bytes file → (d n : ℕ) → Bytes (back file d n)
back-bytes file b d n = take-bytes n (drop (length file - 24 - d) file) (drop-bytes (length file - 24 - d) file b)

pub layout-bytes : (file : List ℕ) → Bytes file → (p : Parts) → layout file ≡ answered p → Bytes p.table_bytes × Bytes p.automata_bytes
unfolding layout
layout-bytes file b p e =
    let h = trailer file in
    let t₁ = require-answered _ 1 _ p e in
    let t₂ = require-answered _ 2 _ p t₁.1 in
    let t₃ = require-answered _ 3 _ p t₂.1 in
    let t₄ = require-answered _ 4 _ p t₃.1 in
    subst (λ (q : Parts). Bytes q.table_bytes × Bytes q.automata_bytes) (answered_inj t₄.1)
    (back-bytes file b h.table_back (8 * table_words h), back-bytes file b h.automata_back h.automata_back)

pub reading-sound : (file : List ℕ) → Bytes file → (a : Accepted) → reading file ≡ answered a → Sound a
unfolding reading
reading-sound file b a e = let t = and_then-answered (layout file) problem_of a e in problem_of-sound t.0 (layout-bytes file b t.0 t.1).0 a t.2
