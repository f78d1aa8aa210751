-- The bytes in the buffer are the automaton's. Assumes nothing.
use mathlib.Core.Path.{◌≡◌, refl, sym, ap, ap₂, ◌∙◌}
use mathlib.Core.List.Memᴰ
use mathlib.Core.List.{List, [], ◌∷◌, ◌++◌, map, flat_map}
use mathlib.Core.Option.{Option, none}
use Prim.Native.Nat.{ℕ, zero, suc, ◌+◌, ◌*◌, ◌/◌, ◌%◌, ◌^◌, ◌≤◌, ◌<◌}
use native.Mathlib.Omega.{arith}
use native.Mathlib.Nat.{mod-lt, div-add-mod', div-lt_iff_lt-mul}
use lib.ListN.{length, get_or, set, drop, length-map, get_or-append}
use lib.Seq.{ext_get_or, get_or-append-add}
use Rattle.std.specs.List.{slice_range}
use Rattle.std.specs.Int.{to_le_bytes}
use Rattle.std.proofs.lemmas.List.{drop-drop}
use Rattle.std.proofs.Common.{w64}
use borrow.Rule.Slice.PartMut.{put_mid}
use Rattle.model.specs.Constraints.{Automaton, move}
use Rattle.laws.specs.Inclusion.{In}
use Rattle.laws.proofs.ListLaws.{get_d_map}
use Rattle.model.specs.Compile.{bytes_of, byte_of, encoded}
use Rattle.patterns.proofs.EncodingLaws.{flat_length}

-- the state that a byte of the rows is of
pub row_of : (t n k : ℕ) → 1 ≤ k → t < n * k → t / k < n
row_of t n k l h = (div-lt_iff_lt-mul l).1 h

-- ---- the whole

-- the word's first four bytes
pub low-bytes : (w : ℕ) → slice_range (to_le_bytes w64 w) 0 4 ≡ bytes_of 4 w
unfolding bytes_of
low-bytes w =
    let a : w / 256 ^ 2 % 256 ≡ w / 256 / 256 % 256 = omega arith in
    let b : w / 256 ^ 3 % 256 ≡ w / 256 / 256 / 256 % 256 = omega arith in
    ap₂ (λ (x y : ℕ). w % 256 ∷ w / 256 % 256 ∷ x ∷ y ∷ []) a b

pub headed : (B ys : List ℕ) (n w : ℕ) → 5 ≤ length B → ys ≡ slice_range (to_le_bytes w64 w) 0 4 → put_mid 1 4 (set B 0 n) ys ≡ n ∷ (bytes_of 4 w ++ drop 5 B)
headed [] ys n w l e = absurd (omega arith)
headed (x₀ ∷ []) ys n w l e = absurd (omega arith)
headed (x₀ ∷ x₁ ∷ []) ys n w l e = absurd (omega arith)
headed (x₀ ∷ x₁ ∷ x₂ ∷ []) ys n w l e = absurd (omega arith)
headed (x₀ ∷ x₁ ∷ x₂ ∷ x₃ ∷ []) ys n w l e = absurd (omega arith)
headed (x₀ ∷ x₁ ∷ x₂ ∷ x₃ ∷ x₄ ∷ B) ys n w l e = ap (λ (bs : List ℕ). n ∷ (bs ++ B)) (e ∙ low-bytes w)

flat_at : (k : ℕ) (rows : List (List (Option ℕ))) (i a : ℕ) → ((row : List (Option ℕ)) → In row rows → length row ≡ k) → i < length rows → a < k
    → get_or (flat_map (map byte_of) rows) (i * k + a) 0 ≡ byte_of (get_or (get_or rows i []) a none)
unfolding flat_map
flat_at k [] i a w l h = absurd (omega arith)
flat_at k (row ∷ rows) zero a w l h =
    let n = w row (Memᴰ.head refl) in
    let m = length-map row byte_of in
    let z : 0 * k + a ≡ a = omega arith in
    ap (λ (j : ℕ). get_or (map byte_of row ++ flat_map (map byte_of) rows) j 0) z
    ∙ get_or-append (map byte_of row) (flat_map (map byte_of) rows) 0 a (omega arith)
    ∙ get_d_map byte_of row a none 0 (omega arith)
flat_at k (row ∷ rows) (suc i) a w l h =
    let n = length-map row byte_of ∙ w row (Memᴰ.head refl) in
    let z : suc i * k + a ≡ length (map byte_of row) + (i * k + a) = omega (arith, n) in
    ap (λ (j : ℕ). get_or (map byte_of row ++ flat_map (map byte_of) rows) j 0) z
    ∙ get_or-append-add (map byte_of row) (flat_map (map byte_of) rows) (i * k + a) 0
    ∙ flat_at k rows i a (λ r m. w r (Memᴰ.tail m)) (omega arith) h

module _ (A : Automaton) (k n : ℕ) (B R : List ℕ) (f : ℕ → ℕ) (count : length A.moves ≡ n) (wide : (row : List (Option ℕ)) → In row A.moves → length row ≡ k) (some-symbol : 1 ≤ k) (size : length R ≡ n * k) (rows : (t : ℕ) → t < n * k → get_or R t 0 ≡ f t) (entries : (t : ℕ) → t < n * k → f t ≡ byte_of (move A (t / k) (t % k))) where
  rows-right : R ≡ flat_map (map byte_of) A.moves
  unfolding move
  rows-right = ext_get_or 0 R (flat_map (map byte_of) A.moves) whole (λ t l.
      let i = row_of t n k some-symbol (omega arith) in
      let d = div-add-mod' t k in
      rows t (omega arith)
      ∙ entries t (omega arith)
      ∙ sym (flat_at k A.moves (t / k) (t % k) wide (omega arith) (mod-lt t some-symbol))
      ∙ ap (λ (j : ℕ). get_or (flat_map (map byte_of) A.moves) j 0) d)
    where
      whole : length R ≡ length (flat_map (map byte_of) A.moves)
      whole = let g = ap (λ (x : ℕ). x * k) count in omega (arith, flat_length k A.moves wide, g)

  pub buffer-right : put_mid 5 (n * k) (n ∷ (bytes_of 4 A.accepting ++ drop 5 B)) R ≡ encoded A ++ drop (5 + n * k) B
  unfolding encoded bytes_of
  buffer-right = ap₂ (λ (m : ℕ) (tail : List ℕ). m ∷ (bytes_of 4 A.accepting ++ tail)) (sym count) (ap₂ ◌++◌ rows-right (drop-drop (n * k) 5 B))
