-- The bytes of an automaton are read as that automaton. Assumes nothing.
use mathlib.Core.Path.{◌≡◌, refl, sym, ap, ap₂, subst, ◌∙◌}
use mathlib.Core.Bool.{Bool, true, cond, ◌&&◌, ◌||◌, or-true}
use mathlib.Core.List.Memᴰ
use mathlib.Core.List.{List, [], ◌∷◌, ◌++◌, map, flat_map, map-id, map-map}
use mathlib.Core.Option.{Option, none, some}
use Prim.Native.Nat.{ℕ, suc, ◌+◌, ◌*◌, ◌^◌, ◌≤◌, ◌<◌}
use native.Mathlib.Omega.{arith}
use lib.Dec.{eqb, ltb}
use lib.ListN.{length, take, drop, length-append, length-map}
use lib.Seq.{take_all, take-append_seam, drop-append_seam}
use borrow.Author.Tests.{le-leb, lt-ltb, ne_eqb}
use Rattle.model.specs.Lists.{all, given}
use Rattle.model.specs.Words.{bit, bits, none_from}
use Rattle.model.specs.Constraints.{Automaton}
use Rattle.model.specs.Layout.{little, part}
use Rattle.model.specs.Reading.{automaton, pieces, target, known}
use Rattle.laws.specs.Inclusion.{In}
use Rattle.laws.proofs.ListLaws.{in_all, of-flat_map, map_cong}
use Rattle.laws.proofs.WordLaws.{of-bits}
use Rattle.laws.proofs.ShiftLaws.{low_word}
use Rattle.model.specs.Compile.{bytes_of, byte_of, encoded}

-- every row has k entries, and a move that exists leads below q
pub record Rows (k q : ℕ) (rows : List (List (Option ℕ))) : Type 0 where
  pub wide : (row : List (Option ℕ)) → In row rows → length row ≡ k
  pub below : (row : List (Option ℕ)) (p : ℕ) → In row rows → In (some p) row → p < q

pub flat_length : (k : ℕ) (rows : List (List (Option ℕ))) → ((row : List (Option ℕ)) → In row rows → length row ≡ k)
    → length (flat_map (map byte_of) rows) ≡ length rows * k
unfolding flat_map
flat_length k [] w = omega arith
flat_length k (row ∷ rows) w =
    let a = length-append (map byte_of row) (flat_map (map byte_of) rows) in
    let b = flat_length k rows (λ r m. w r (Memᴰ.tail m)) in
    let c = length-map row byte_of ∙ w row (Memᴰ.head refl) in
    let d : suc (length rows) * k ≡ k + length rows * k = omega arith in
    a ∙ ap₂ (λ (x y : ℕ). x + y) c b ∙ sym d

flat_pieces : (k : ℕ) (rows : List (List (Option ℕ))) → ((row : List (Option ℕ)) → In row rows → length row ≡ k)
    → pieces (length rows) k (flat_map (map byte_of) rows) ≡ map (map byte_of) rows
unfolding flat_map pieces
flat_pieces k [] w = refl
flat_pieces k (row ∷ rows) w =
    let r = map byte_of row in
    let f = flat_map (map byte_of) rows in
    let c = length-map row byte_of ∙ w row (Memᴰ.head refl) in
    let t : take k (r ++ f) ≡ r = ap (λ (n : ℕ). take n (r ++ f)) (sym c) ∙ take-append_seam r f in
    let d : drop k (r ++ f) ≡ f = ap (λ (n : ℕ). drop n (r ++ f)) (sym c) ∙ drop-append_seam r f in
    ap₂ (λ (x : List ℕ) (y : List (List ℕ)). x ∷ y) t (ap (pieces (length rows) k) d ∙ flat_pieces k rows (λ r m. w r (Memᴰ.tail m)))

-- ---- the byte of a move

-- it is one that refusal 5 lets pass
byte_known : (q : ℕ) (m : Option ℕ) → ((p : ℕ) → m ≡ some p → p < q) → known q (byte_of m) ≡ true
unfolding known byte_of
byte_known q none h = or-true (ltb 255 q)
byte_known q (some p) h = ap (λ (t : Bool). t || eqb p 255) (lt-ltb p q (h p refl))

-- and it is read as that move: the number of a state is never the byte of a gap
byte_read : (q : ℕ) → q ≤ 255 → (m : Option ℕ) → ((p : ℕ) → m ≡ some p → p < q) → target (byte_of m) ≡ m
unfolding target byte_of
byte_read q l none h = refl
byte_read q l (some p) h = let b = h p refl in ap (λ (t : Bool). cond t none (some p)) (ne_eqb p 255 (λ e. omega arith))

four_bytes : (w : ℕ) → w < 2 ^ 32 → little (bytes_of 4 w) ≡ w
unfolding little bytes_of
four_bytes w h = omega arith

none_from_lem : (q w : ℕ) → ((b : ℕ) → bit w b ≡ true → b < q) → none_from q w ≡ true
unfolding none_from
none_from_lem q w h = in_all (λ b. ltb b q) (bits w) (λ b m. lt-ltb b q (h b (of-bits w m).0))

given_is : {B : Type 0} {t : Bool} {a b : B} → t ≡ true → a ≡ b → given t a ≡ some b
unfolding given
given_is {a = a} p q = ap (λ t. given t a) p ∙ ap some q

five : {a b c d e : Bool} → a ≡ true → b ≡ true → c ≡ true → d ≡ true → e ≡ true → (a && b && c && d && e) ≡ true
five p q r s t = rw (p, q, r, s, t)

module _ (k : ℕ) (A : Automaton) (some-state : 1 ≤ length A.moves) (few : length A.moves ≤ 32) (rows : Rows k (length A.moves) A.moves) (states-only : (b : ℕ) → bit A.accepting b ≡ true → b < length A.moves) where
  pub encoded-length : length (encoded A) ≡ 5 + length A.moves * k
  unfolding encoded bytes_of
  encoded-length = let f = flat_length k A.moves rows.wide in omega (arith, f)

  whole_part : take (length A.moves * k) (flat_map (map byte_of) A.moves) ≡ flat_map (map byte_of) A.moves
  whole_part = let f = flat_length k A.moves rows.wide in take_all (length A.moves * k) (flat_map (map byte_of) A.moves) (omega arith)

  -- an entry that exists leads to a state
  entry-below : (row : List (Option ℕ)) (m : Option ℕ) → In row A.moves → In m row → (p : ℕ) → m ≡ some p → p < length A.moves
  entry-below row m i n p e = rows.below row p i (subst (λ (o : Option ℕ). In o row) e n)

  moves-known : all (known (length A.moves)) (flat_map (map byte_of) A.moves) ≡ true
  moves-known = in_all (known (length A.moves)) (flat_map (map byte_of) A.moves) (λ b i.
      let t = of-flat_map (map byte_of) A.moves i in
      let u = Memᴰ.of_map byte_of t.0 t.2 in
      rw u.2 at (byte_known (length A.moves) u.0 (entry-below t.0 u.0 t.1 u.1)))

  row_read : (row : List (Option ℕ)) → In row A.moves → map target (map byte_of row) ≡ row
  row_read row i =
      map-map target byte_of row
      ∙ map_cong (λ m. target (byte_of m)) (λ m. m) row (λ m n. byte_read (length A.moves) (omega arith) m (entry-below row m i n))
      ∙ map-id row

  moves_read : map (map target) (pieces (length A.moves) k (flat_map (map byte_of) A.moves)) ≡ A.moves
  moves_read =
      ap (map (map target)) (flat_pieces k A.moves rows.wide)
      ∙ map-map (map target) (map byte_of) A.moves
      ∙ map_cong (λ row. map target (map byte_of row)) (λ row. row) A.moves row_read
      ∙ map-id A.moves

  -- also where moves are missing
  pub automaton-encoded : automaton k (encoded A) ≡ some A
  unfolding automaton encoded bytes_of
  automaton-encoded =
      let q = length A.moves in
      let acc : little (part 1 4 (encoded A)) ≡ A.accepting = four_bytes A.accepting (low_word 32 A.accepting (λ b y. let h = states-only b y in omega arith)) in
      given_is
      (five
      (le-leb 1 q some-state)
      (le-leb q 32 few)
      (le-leb (5 + q * k) (length (encoded A)) (omega (arith, encoded-length)))
      (ap (none_from q) acc ∙ none_from_lem q A.accepting states-only)
      (ap (all (known q)) whole_part ∙ moves-known))
      (ap₂ (λ (w : ℕ) (m : List (List (Option ℕ))). record { accepting = w; moves = m }) acc moves_read)
