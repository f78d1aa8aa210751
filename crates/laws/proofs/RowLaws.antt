-- Laws of a row of any number of places: the strings that it stands for, by its bits, their lengths and symbols, and the bits that they use. Assumes nothing.
use mathlib.Core.Path.{◌≡◌, refl, sym, ap, subst, ◌∙◌}
use mathlib.Core.Bool.{Bool, true, false, cond, false≢true}
use mathlib.Core.List.Memᴰ
use mathlib.Core.List.{List, [], ◌∷◌}
use Prim.Native.Nat.{ℕ, zero, suc, ◌^◌, ◌≤◌, ◌<◌}
use native.Mathlib.Omega.{arith}
use lib.Dec.{leb}
use lib.ListN.{length, get_or, length-map}
use lib.Seq.{ext_get_or}
use borrow.Author.Tests.{leb-true, le-leb}
use Rattle.model.specs.Words.{bit, bits, none_from, word, Words}
use Rattle.model.specs.Domains.{texts, strings}
use Rattle.model.specs.Solutions.{text_bit}
use Rattle.laws.specs.Inclusion.{In, Within, Single}
use Rattle.laws.specs.Supported.{InRow}
use Rattle.laws.proofs.ListLaws.{Sub, of-flat_map, in_flat_map, flat_map-small}
use Rattle.laws.proofs.WordLaws.{zero_bit, pow_self, pow-only, pow-within, zero-within, of-bits, in_bits, none_from-bits}
use Rattle.laws.proofs.BitsLaws.{single, single_of}

-- its length and its symbols are numbers that a word of 64 bits can allow
pub record Short (w : List ℕ) : Type 0 where
  pub length-short : length w < 64
  pub symbols-short : (j : ℕ) → j < length w → get_or w j 0 < 64

-- ---- the strings of a row are those that it allows

-- a string of n symbols that these places allow
pub record InPlaces (places : List ℕ) (n : ℕ) (w : List ℕ) : Type 0 where
  pub long : length w ≡ n
  pub reached : n ≤ length places
  pub allowed : (j : ℕ) → j < n → bit (word places j) (get_or w j 0) ≡ true
  pub short : (j : ℕ) → j < n → get_or w j 0 < 64

pub of-texts : (places : List ℕ) (n : ℕ) (w : List ℕ) → In w (texts places n) → InPlaces places n w
unfolding texts
of-texts places zero w (Memᴰ.tail x5) = elim x5 [ ]
of-texts places zero w (Memᴰ.head e) = record { long = ap length e; reached = omega arith; allowed = λ j h. absurd (omega arith); short = λ j h. absurd (omega arith) }
of-texts [] (suc n) w m = absurd (Memᴰ.not-nil m)
of-texts (p ∷ places) (suc n) w m =
    let t = of-flat_map _ _ m in
    let u = Memᴰ.of_map _ _ t.2 in
    go t.0 u.0 u.2 (of-bits p t.1) (of-texts places n u.0 u.1)
  where
    go : (a : ℕ) (v : List ℕ) → a ∷ v ≡ w → (bit p a ≡ true) × (a < 64) → InPlaces places n v → InPlaces (p ∷ places) (suc n) w
    go a v e h r = subst (InPlaces (p ∷ places) (suc n)) e (record {
      long = ap suc r.long;
      reached = let k = r.reached in omega arith;
      allowed = elim [ zero ↦ λ k. h.0 | suc j ↦ λ k. r.allowed j (omega arith) ];
      short = elim [ zero ↦ λ k. h.1 | suc j ↦ λ k. r.short j (omega arith) ];
    })

pub in_texts : (places w : List ℕ) → ((j : ℕ) → j < length w → bit (word places j) (get_or w j 0) ≡ true) → ((j : ℕ) → j < length w → get_or w j 0 < 64) → In w (texts places (length w))
unfolding texts
in_texts places [] h k = Memᴰ.head refl
in_texts [] (a ∷ w) h k = absurd (false≢true (sym (zero_bit a) ∙ h 0 (omega arith)))
in_texts (p ∷ places) (a ∷ w) h k =
    in_flat_map _ (in_bits p a (h 0 (omega arith)) (k 0 (omega arith))) (Memᴰ.map (λ v. a ∷ v) (in_texts places w (λ j l. h (suc j) (omega arith)) (λ j l. k (suc j) (omega arith))))

-- a string of a row: the row allows it, it is short, and the row has a place for each of its symbols
pub record OfRow (r w : List ℕ) : Type 0 where
  pub inside : InRow r w
  pub small : Short w
  pub placed : length w < length r

pub of-strings : (r w : List ℕ) → In w (strings r) → OfRow r w
unfolding strings
of-strings [] w m = absurd (Memᴰ.not-nil m)
of-strings (lengths ∷ places) w m =
    let t = of-flat_map _ _ m in
    go t.0 (of-bits lengths t.1) (of-texts places t.0 w t.2)
  where
    go : (n : ℕ) → (bit lengths n ≡ true) × (n < 64) → InPlaces places n w → OfRow (lengths ∷ places) w
    go n h r =
        let e = r.long in
        let k = h.1 in
        let l = r.reached in
        record {
          inside = record { length-bit = subst (λ (l : ℕ). bit lengths l ≡ true) (sym e) h.0; symbol-bits = λ j l. r.allowed j (omega arith) };
          small = record { length-short = omega arith; symbols-short = λ j l. r.short j (omega arith) };
          placed = omega arith;
        }

pub in_strings : (r w : List ℕ) → InRow r w → Short w → In w (strings r)
unfolding strings
in_strings [] w i s = absurd (false≢true (sym (zero_bit (length w)) ∙ i.length-bit))
in_strings (lengths ∷ places) w i s = in_flat_map _ (in_bits lengths (length w) i.length-bit s.length-short) (in_texts places w i.symbol-bits s.symbols-short)

-- what a row of 64-bit words allows is short
pub short-of : (r : List ℕ) → Words r → (w : List ℕ) → InRow r w → Short w
short-of r bd w i = record { length-short = bd 0 (length w) i.length-bit; symbols-short = λ j h. bd (suc j) (get_or w j 0) (i.symbol-bits j h) }

-- in an alphabet of k symbols, where no place has a bit at k or above, the strings are over these symbols
pub strings-alphabet : (k : ℕ) (r : List ℕ) → ((j : ℕ) → suc j < length r → none_from k (word r (suc j)) ≡ true) → (w : List ℕ) → In w (strings r) → (j : ℕ) → j < length w → get_or w j 0 < k
strings-alphabet k r low w m j h =
    let o = of-strings r w m in
    let l = o.placed in
    none_from-bits k (word r (suc j)) (low j (omega arith)) (get_or w j 0) (in_bits (word r (suc j)) (get_or w j 0) (o.inside.symbol-bits j h) (o.small.symbols-short j h))

-- a row with more bits has more strings
pub in_wider : (r s w : List ℕ) → ((j : ℕ) → Within (word r j) (word s j)) → InRow r w → InRow s w
in_wider r s w h i = record { length-bit = h 0 (length w) i.length-bit; symbol-bits = λ j l. h (suc j) (get_or w j 0) (i.symbol-bits j l) }

pub strings-sub : (r s : List ℕ) → ((j : ℕ) → Within (word r j) (word s j)) → Sub (strings r) (strings s)
strings-sub r s h w m = let o = of-strings r w m in in_strings s w (in_wider r s w h o.inside) o.small

-- ---- the bits that a string uses

-- a string's bit in the first word is that of its length
pub length-pow : (w : List ℕ) (i : ℕ) → i < 1 → text_bit w i ≡ 2 ^ length w
unfolding text_bit
length-pow w zero h = refl
length-pow w (suc i) h = absurd (omega arith)

pub length-used : (w : List ℕ) → bit (text_bit w 0) (length w) ≡ true
unfolding text_bit
length-used w = pow_self (length w)

pub symbol-pow : (w : List ℕ) (j : ℕ) → j < length w → text_bit w (suc j) ≡ 2 ^ get_or w j 0
unfolding text_bit
symbol-pow w j h = rw (le-leb (suc j) (length w) h)

pub symbol-used : (w : List ℕ) (j : ℕ) → j < length w → bit (text_bit w (suc j)) (get_or w j 0) ≡ true
symbol-used w j h = ap (λ (x : ℕ). bit x (get_or w j 0)) (symbol-pow w j h) ∙ pow_self (get_or w j 0)

pub symbol-inside : (w : List ℕ) (j b : ℕ) → bit (text_bit w (suc j)) b ≡ true → j < length w
unfolding text_bit
symbol-inside w j b = go (leb (suc j) (length w)) refl
  where
    go : (t : Bool) → leb (suc j) (length w) ≡ t → bit (cond t (2 ^ get_or w j 0) 0) b ≡ true → j < length w
    go true e q = leb-true (suc j) (length w) e
    go false e q = absurd (false≢true (sym (zero_bit b) ∙ q))

-- a string uses at most one bit of a word
pub used-once : (w : List ℕ) (j b c : ℕ) → bit (text_bit w j) b ≡ true → bit (text_bit w j) c ≡ true → b ≡ c
unfolding text_bit
used-once w zero b c p q = pow-only (length w) b p ∙ sym (pow-only (length w) c q)
used-once w (suc j) b c p q =
    let e = symbol-pow w j (symbol-inside w j b p) in
    pow-only (get_or w j 0) b (ap (λ (x : ℕ). bit x b) (sym e) ∙ p) ∙ sym (pow-only (get_or w j 0) c (ap (λ (x : ℕ). bit x c) (sym e) ∙ q))

pub used-symbol : (w : List ℕ) (j b : ℕ) → bit (text_bit w (suc j)) b ≡ true → get_or w j 0 ≡ b
used-symbol w j b q = used-once w (suc j) (get_or w j 0) b (symbol-used w j (symbol-inside w j b q)) q

pub used-length : (w : List ℕ) (b : ℕ) → bit (text_bit w 0) b ≡ true → length w ≡ b
used-length w b q = used-once w 0 (length w) b (length-used w) q

pub text-single : (w : List ℕ) (j : ℕ) → Single (text_bit w j)
text-single w j = single_of (text_bit w j) (used-once w j)

-- a row allows a string just where it has the bits that the string uses
pub used-within : (r w : List ℕ) → InRow r w → (j : ℕ) → Within (text_bit w j) (word r j)
unfolding text_bit
used-within r w i zero = pow-within (length w) (word r 0) i.length-bit
used-within r w i (suc j) = go (leb (suc j) (length w)) refl
  where
    go : (t : Bool) → leb (suc j) (length w) ≡ t → Within (cond t (2 ^ get_or w j 0) 0) (word r (suc j))
    go true e = pow-within (get_or w j 0) (word r (suc j)) (i.symbol-bits j (leb-true (suc j) (length w) e))
    go false e = zero-within (word r (suc j))

pub within-used : (r w : List ℕ) → ((j : ℕ) → j < suc (length w) → Within (text_bit w j) (word r j)) → InRow r w
within-used r w h = record { length-bit = h 0 (omega arith) (length w) (length-used w); symbol-bits = λ j l. h (suc j) (omega arith) (get_or w j 0) (symbol-used w j l) }

-- ---- a row whose words have at most one bit each

module _ (r w v : List ℕ) (mw : In w (strings r)) (mv : In v (strings r)) where
  pub same-lengths : Single (word r 0) → length w ≡ length v
  same-lengths h =
      let o = of-strings r w mw in
      let p = of-strings r v mv in
      single (word r 0) (length w) (length v) h o.small.length-short p.small.length-short o.inside.length-bit p.inside.length-bit

  pub same-symbols : (j : ℕ) → j < length w → j < length v → Single (word r (suc j)) → get_or w j 0 ≡ get_or v j 0
  same-symbols j k l h =
      let o = of-strings r w mw in
      let p = of-strings r v mv in
      single (word r (suc j)) (get_or w j 0) (get_or v j 0) h (o.small.symbols-short j k) (p.small.symbols-short j l) (o.inside.symbol-bits j k) (p.inside.symbol-bits j l)

  pub same-strings : ((j : ℕ) → j < length r → Single (word r j)) → w ≡ v
  same-strings h =
      let k = (of-strings r w mw).placed in
      let e = same-lengths (h 0 (omega arith)) in
      ext_get_or 0 w v e (λ j l. same-symbols j l (omega arith) (h (suc j) (omega arith)))

texts-few : (places : List ℕ) (n : ℕ) → ((j : ℕ) → j < length places → Single (word places j)) → length (texts places n) < 2
unfolding texts
texts-few places zero h = omega arith
texts-few [] (suc n) h = omega arith
texts-few (p ∷ places) (suc n) h =
    let r : length (texts places n) < 2 = texts-few places n (λ j l. h (suc j) (omega arith)) in
    flat_map-small _ (bits p) (h 0 (omega arith)) (λ a m. omega (arith, length-map (texts places n) (λ v. a ∷ v)))

pub strings-few : (r : List ℕ) → ((j : ℕ) → j < length r → Single (word r j)) → length (strings r) < 2
unfolding strings
strings-few [] h = omega arith
strings-few (lengths ∷ places) h = flat_map-small _ (bits lengths) (h 0 (omega arith)) (λ n m. texts-few places n (λ j l. h (suc j) (omega arith)))
