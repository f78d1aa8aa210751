-- Cat by support: the choices with a first string of p symbols are the strings of one row, and all choices are those of the lengths below 64. Assumes nothing.
use mathlib.Core.Path.{◌≡◌, refl, sym, ap, ap₂, subst, ◌∙◌}
use mathlib.Core.Logic.{◌⊎◌, inl, inr, ⊎_elim}
use mathlib.Core.Bool.{Bool, true, false, not, ◌&&◌}
use mathlib.Core.List.{List, [], ◌++◌}
use Prim.Native.Nat.{ℕ, suc, ◌+◌, ◌-◌, ◌*◌, ◌/◌, ◌%◌, ◌^◌, ◌≤◌, ◌<◌}
use native.Mathlib.Omega.{arith}
use lib.Bits.{bit_and}
use lib.Dec.{eqb, ltb}
use lib.ListN.{length, get_or, take, drop, replicate, length-append, length-drop, take-append-drop, get_or-append}
use lib.Seq.{length-take-le, get_or-take, get_or-drop, get_or-append-add, take_at, drop_at}
use borrow.Author.Tests.{eqb-true, eq-eqb, ltb-true, ltb-false}
use Rattle.model.specs.Lists.{same}
use Rattle.model.specs.Words.{bit, word, Words}
use Rattle.model.specs.Constraints.{cat, variables, meets}
use Rattle.model.specs.Solutions.{text_bit}
use Rattle.model.specs.Support.{narrowed}
use Rattle.rows.specs.Rows.{alone, joined, trimmed}
use Rattle.rows.specs.Parts.{Window}
use Rattle.rows.proofs.TrimLaws.{trimmed-supports}
use Rattle.rows.proofs.MeetLaws.{joined-or}
use Rattle.rows.proofs.Windows.{take-supports, drop-supports}
use Rattle.laws.specs.Supported.{InRow, Supports}
use Rattle.laws.proofs.ListLaws.{same_true, same_refl}
use Rattle.laws.proofs.ShiftLaws.{and-bit, of-and-bit, bit-shr, of-shifted, in_shifted}
use Rattle.laws.proofs.RowLaws.{short-of}
use Rattle.laws.proofs.Supports.{or_words, moved-support, none-support, either-support}
use Rattle.laws.proofs.WordLaws.{zero_bit, and_yes, bit-sub}
use Rattle.cat.specs.Splits.{Three, Split, Outside, Supported}
use Rattle.rows.proofs.ChoiceLaws.{some-choice, no-choice}
use Rattle.cat.proofs.ThreeRows.{Met, three-narrowed}

-- ---- the row of the whole string

-- r is z with these lengths, its first p places met with x's and the others with y's from the first on
pub record Whole (x y z : List ℕ) (lengths p : ℕ) (r : List ℕ) : Type 0 where
  pub size : length r ≡ 64
  pub first : word r 0 ≡ lengths
  pub begun : (i : ℕ) → i < p → word r (suc i) ≡ bit_and (word z (suc i)) (word x (suc i))
  pub ended : (i : ℕ) → i < 63 - p → word r (suc (p + i)) ≡ bit_and (word z (suc (p + i))) (word y (suc i))

-- the lengths of z that leave, after p symbols, a length of y
abbrev pub lengths-at : ℕ → ℕ → ℕ → ℕ
lengths-at y z p = bit_and (z / 2 ^ p) y * 2 ^ p % 2 ^ 64

of-lengths-at : (y z p b : ℕ) → bit (lengths-at y z p) b ≡ true → (p ≤ b) × (bit z b ≡ true) × (bit y (b - p) ≡ true)
of-lengths-at y z p b e =
    let s = of-shifted (bit_and (z / 2 ^ p) y) p b e in
    let h = s.0 in
    let a = of-and-bit (z / 2 ^ p) y (b - p) s.1 in
    let q : p + (b - p) ≡ b = omega arith in
    (h, ap (bit z) (sym q) ∙ sym (bit-shr z p (b - p)) ∙ a.0, a.1)

in_lengths-at : (y z p q : ℕ) → p + q < 64 → bit z (p + q) ≡ true → bit y q ≡ true → bit (lengths-at y z p) (p + q) ≡ true
in_lengths-at y z p q h e d =
    let w : ℕ = bit_and (z / 2 ^ p) y in
    let k : p + q - p ≡ q = omega arith in
    in_shifted w p (p + q) h (omega arith) (ap (bit w) k ∙ and-bit (z / 2 ^ p) y q (bit-shr z p q ∙ e) d)

-- a string, parted after p symbols
parted : ℕ → List ℕ → Three
parted p w = record { first = take p w; second = drop p w; third = w }

module _ (x y z : List ℕ) (p : ℕ) (small : p < 64) (bz : Words z) (allowed : bit (word x 0) p ≡ true) (r : List ℕ) (bd : Words r)
    (whole : Whole x y z (lengths-at (word y 0) (word z 0) p) p r) where
  whole_length : (w : List ℕ) → InRow r w → (p ≤ length w) × (bit (word z 0) (length w) ≡ true) × (bit (word y 0) (length w - p) ≡ true)
  whole_length w i = of-lengths-at (word y 0) (word z 0) p (length w) (ap (λ (a : ℕ). bit a (length w)) (sym whole.first) ∙ i.length-bit)

  symbol-begun : (w : List ℕ) → InRow r w → (j : ℕ) → j < p → j < length w
      → (bit (word z (suc j)) (get_or w j 0) ≡ true) × (bit (word x (suc j)) (get_or w j 0) ≡ true)
  symbol-begun w i j h l = of-and-bit (word z (suc j)) (word x (suc j)) (get_or w j 0)
      (ap (λ (a : ℕ). bit a (get_or w j 0)) (sym (whole.begun j h)) ∙ i.symbol-bits j l)

  symbol-ended : (w : List ℕ) → InRow r w → (j : ℕ) → p + j < length w
      → (bit (word z (suc (p + j))) (get_or w (p + j) 0) ≡ true) × (bit (word y (suc j)) (get_or w (p + j) 0) ≡ true)
  symbol-ended w i j l =
      let s = (short-of r bd w i).length-short in
      of-and-bit (word z (suc (p + j))) (word y (suc j)) (get_or w (p + j) 0)
      (ap (λ (a : ℕ). bit a (get_or w (p + j) 0)) (sym (whole.ended j (omega arith))) ∙ i.symbol-bits (p + j) l)

  symbol-whole : (w : List ℕ) → InRow r w → (j : ℕ) → j < length w → bit (word z (suc j)) (get_or w j 0) ≡ true
  symbol-whole w i j l = go (ltb j p) refl
    where
      go : (t : Bool) → ltb j p ≡ t → bit (word z (suc j)) (get_or w j 0) ≡ true
      go true q = (symbol-begun w i j (ltb-true j p q) l).0
      go false q =
          let h = ltb-false j p q in
          let e : p + (j - p) ≡ j = omega arith in
          subst (λ (k : ℕ). bit (word z (suc k)) (get_or w k 0) ≡ true) e (symbol-ended w i (j - p) (omega arith)).0

  -- a string of the row is a choice
  of-whole : (w : List ℕ) → InRow r w → Split x y z p (parted p w)
  unfolding parted
  of-whole w i =
      let n = whole_length w i in
      let h = n.0 in
      let lt = length-take-le p w h in
      let ld = length-drop p w in
      record {
        in_first = record {
          length-bit = ap (bit (word x 0)) lt ∙ allowed;
          symbol-bits = λ j l. let k : j < p = omega arith in ap (bit (word x (suc j))) (get_or-take p w j 0 k) ∙ (symbol-begun w i j k (omega arith)).1;
        };
        in_second = record {
          length-bit = ap (bit (word y 0)) ld ∙ n.2;
          symbol-bits = λ j l. ap (bit (word y (suc j))) (get_or-drop p w j 0) ∙ (symbol-ended w i j (omega arith)).1;
        };
        in_third = record { length-bit = n.1; symbol-bits = symbol-whole w i };
        long = lt;
        followed = sym (take-append-drop p w);
      }

  -- and a choice is a string of the row, parted
  in_whole : (v : Three) → Split x y z p v → InRow r v.third
  in_whole v s = record { length-bit = lengths_in; symbol-bits = λ j l. go j l (ltb j p) refl }
    where
      u : List ℕ
      u = v.first

      t : List ℕ
      t = v.second

      sum : length v.third ≡ p + length t
      sum = ap length s.followed ∙ length-append u t ∙ ap (λ (n : ℕ). n + length t) s.long

      lengths_in : bit (word r 0) (length v.third) ≡ true
      lengths_in =
          let short = bz 0 (length v.third) s.in_third.length-bit in
          ap (λ (a : ℕ). bit a (length v.third)) whole.first
          ∙ ap (bit (lengths-at (word y 0) (word z 0) p)) sum
          ∙ in_lengths-at (word y 0) (word z 0) p (length t) (omega (arith, sum)) (ap (bit (word z 0)) (sym sum) ∙ s.in_third.length-bit)
          s.in_second.length-bit

      go : (j : ℕ) → j < length v.third → (b : Bool) → ltb j p ≡ b → bit (word r (suc j)) (get_or v.third j 0) ≡ true
      go j l true q =
          let h = ltb-true j p q in
          let k = s.long in
          let e : get_or v.third j 0 ≡ get_or u j 0 = ap (λ (w : List ℕ). get_or w j 0) s.followed ∙ get_or-append u t 0 j (omega arith) in
          let bx : bit (word x (suc j)) (get_or v.third j 0) ≡ true = ap (bit (word x (suc j))) e ∙ s.in_first.symbol-bits j (omega arith) in
          ap (λ (a : ℕ). bit a (get_or v.third j 0)) (whole.begun j h) ∙ and-bit (word z (suc j)) (word x (suc j)) (get_or v.third j 0)
          (s.in_third.symbol-bits j l) bx
      go j l false q =
          let h = ltb-false j p q in
          let k = s.long in
          let n = sum in
          let short = bz 0 (length v.third) s.in_third.length-bit in
          let d : length u + (j - p) ≡ j = omega arith in
          let d₂ : p + (j - p) ≡ j = omega arith in
          let e : get_or v.third j 0 ≡ get_or t (j - p) 0 = ap (λ (w : List ℕ). get_or w j 0) s.followed ∙ ap (λ (i : ℕ). get_or (u ++ t) i 0) (sym d)
          ∙ get_or-append-add u t (j - p) 0 in
          let bY : bit (word y (suc (j - p))) (get_or v.third j 0) ≡ true = ap (bit (word y (suc (j - p)))) e
          ∙ s.in_second.symbol-bits (j - p) (omega arith) in
          let wr : word r (suc j) ≡ bit_and (word z (suc j)) (word y (suc (j - p))) =
          ap (λ (i : ℕ). word r (suc i)) (sym d₂) ∙ whole.ended (j - p) (omega arith) ∙ ap (λ (i : ℕ). bit_and (word z (suc i)) (word y (suc (j - p)))) d₂ in
          ap (λ (a : ℕ). bit a (get_or v.third j 0)) wr ∙ and-bit (word z (suc j)) (word y (suc (j - p))) (get_or v.third j 0)
          (s.in_third.symbol-bits j l) bY

  -- a part of the whole string, by support
  part-supports : (pick : Three → List ℕ) (part : List ℕ → List ℕ) → ((w : List ℕ) → part w ≡ pick (parted p w))
      → ((v : Three) → Split x y z p v → part v.third ≡ pick v)
      → (s : List ℕ) → Supports (InRow r) (λ w. text_bit (part w)) 64 s → Supports (Split x y z p) (λ v. text_bit (pick v)) 64 s
  part-supports pick part e d s = moved-support (InRow r) (Split x y z p) (λ w. text_bit (part w)) (λ v. text_bit (pick v)) 64 s
      (λ w i. (parted p w, of-whole w i, λ j h. ap (λ (u : List ℕ). text_bit u j) (e w)))
      (λ v t. (v.third, in_whole v t, λ j h. ap (λ (u : List ℕ). text_bit u j) (d v t)))

  split-thirds : Supports (Split x y z p) (λ v. text_bit v.third) 64 (trimmed r)
  unfolding parted
  split-thirds = part-supports (λ v. v.third) (λ w. w) (λ w. refl) (λ v s. refl) (trimmed r) (trimmed-supports r whole.size bd)

  -- no string is left of the row
  pub split-empty : word (trimmed r) 0 ≡ 0 → (v : Three) → Split x y z p v → ⊥
  split-empty = no-choice (Split x y z p) (λ v. v.third) (trimmed r) split-thirds

  -- the trimmed row, its first p places, and the places after them
  pub split_supported : (t a b : List ℕ) → t ≡ trimmed r → Words t → 0 < word t 0 → Window t (2 ^ p) 0 p a → Window t (word t 0 / 2 ^ p) p (63 - p) b
      → Supported (Split x y z p) a b t
  unfolding parted
  split_supported t a b e bt h first rest =
      let s : Supports (InRow r) text_bit 64 t = subst (Supports (InRow r) text_bit 64) (sym e) (trimmed-supports r whole.size bd) in
      let some = some-choice (InRow r) (λ w. w) t s bt h in
      let long : (w : List ℕ) → InRow r w → p ≤ length w = λ w i. (whole_length w i).0 in
      record {
        firsts = part-supports (λ v. v.first) (take p) (λ w. refl) (λ v k. ap (take p) k.followed ∙ take_at v.first v.second p k.long) a
            (take-supports (InRow r) (λ w. w) t s p small long some.0 some.1 a first);
        seconds = part-supports (λ v. v.second) (drop p) (λ w. refl) (λ v k. ap (drop p) k.followed ∙ drop_at v.first v.second p k.long) b
            (drop-supports (InRow r) (λ w. w) t s p small long (λ w i. (short-of r bd w i).length-short) b rest);
        thirds = part-supports (λ v. v.third) (λ w. w) (λ w. refl) (λ v k. refl) t s;
      }

-- ---- no choice, and the union over the lengths of the first string

pub none_supported : (Ok : Three → Type 0) → ((v : Three) → Ok v → ⊥) → (rx ry rz : List ℕ) → rx ≡ replicate 64 0 → ry ≡ replicate 64 0 → rz ≡ replicate 64 0
    → Supported Ok rx ry rz
none_supported Ok never rx ry rz ex ey ez = record {
  firsts = rw ex (none-support Ok (λ v. text_bit v.first) 64 never);
  seconds = rw ey (none-support Ok (λ v. text_bit v.second) 64 never);
  thirds = rw ez (none-support Ok (λ v. text_bit v.third) 64 never);
}

module _ (x y z : List ℕ) where
  -- a length that is taken out of rest
  module _ (rest p : ℕ) (here : bit rest p ≡ true) where
    kept_out : (k : ℕ) → bit rest k ≡ false → bit (rest - 2 ^ p) k ≡ false
    kept_out k e = bit-sub rest p k here ∙ ap (λ (b : Bool). b && not (eqb p k)) e

    taken_out : bit (rest - 2 ^ p) p ≡ false
    taken_out = bit-sub rest p p here ∙ ap₂ (λ (a b : Bool). a && not b) here (eq-eqb p p refl)

    of-outside : (v : Three) → Outside x y z (rest - 2 ^ p) v → Split x y z p v ⊎ Outside x y z rest v
    of-outside v o = go (eqb p o.0) refl
      where
        go : (t : Bool) → eqb p o.0 ≡ t → Split x y z p v ⊎ Outside x y z rest v
        go true e = inl (subst (λ (k : ℕ). Split x y z k v) (sym (eqb-true p o.0 e)) o.2)
        go false e = inr (
          o.0,
          sym (and_yes (bit rest o.0)) ∙ ap (λ (b : Bool). bit rest o.0 && not b) (sym e) ∙ sym (bit-sub rest p o.0 here)
              ∙ o.1,
          o.2,
        )

    next : (f : Three → ℕ → ℕ) (r s : List ℕ) → Supports (Split x y z p) f 64 r → Supports (Outside x y z rest) f 64 s
        → Supports (Outside x y z (rest - 2 ^ p)) f 64 (joined r s)
    next f r s a b = rw (joined-or r s) (moved-support (λ v. Split x y z p v ⊎ Outside x y z rest v) (Outside x y z (rest - 2 ^ p)) f f 64 (or_words 64 r s)
        (λ v ok. (v, ⊎_elim (λ t. (p, taken_out, t)) (λ o. (o.0, kept_out o.0 o.1, o.2)) ok, λ i h. refl))
        (λ v o. (v, of-outside v o, λ i h. refl))
        (either-support (Split x y z p) (Outside x y z rest) f 64 r s a b))

    skip : ((v : Three) → Split x y z p v → ⊥) → (f : Three → ℕ → ℕ) (s : List ℕ) → Supports (Outside x y z rest) f 64 s
        → Supports (Outside x y z (rest - 2 ^ p)) f 64 s
    skip never f s = moved-support (Outside x y z rest) (Outside x y z (rest - 2 ^ p)) f f 64 s
        (λ v o. (v, (o.0, kept_out o.0 o.1, o.2), λ i h. refl))
        (λ v o. (v, ⊎_elim (λ t. absurd (never v t)) (λ q. q) (of-outside v o), λ i h. refl))

    -- with the choices of that length, and where there are none
    pub outside-next : (ax ay az bx bY bz : List ℕ) → Supported (Split x y z p) ax ay az → Supported (Outside x y z rest) bx bY bz
        → Supported (Outside x y z (rest - 2 ^ p)) (joined ax bx) (joined ay bY) (joined az bz)
    outside-next ax ay az bx bY bz s t = record {
      firsts = next (λ v. text_bit v.first) ax bx s.firsts t.firsts;
      seconds = next (λ v. text_bit v.second) ay bY s.seconds t.seconds;
      thirds = next (λ v. text_bit v.third) az bz s.thirds t.thirds;
    }

    pub outside-skip : ((v : Three) → Split x y z p v → ⊥) → (bx bY bz : List ℕ) → Supported (Outside x y z rest) bx bY bz
        → Supported (Outside x y z (rest - 2 ^ p)) bx bY bz
    outside-skip never bx bY bz t = record {
      firsts = skip never (λ v. text_bit v.first) bx t.firsts;
      seconds = skip never (λ v. text_bit v.second) bY t.seconds;
      thirds = skip never (λ v. text_bit v.third) bz t.thirds;
    }

  module _ (lx : length x ≡ 64) (ly : length y ≡ 64) (lz : length z ≡ 64) (bx : Words x) (bY : Words y) (bz : Words z) where
    test : List ℕ → List ℕ → List ℕ → Bool
    test u v w = same w (u ++ v)

    of-split : (v : Three) → Outside x y z 0 v → Met test x y z v
    unfolding test
    of-split v k = let s = k.2 in record {
      in_first = s.in_first;
      in_second = s.in_second;
      in_third = s.in_third;
      meeting = ap (λ (w : List ℕ). same w (v.first ++ v.second)) s.followed ∙ same_refl (v.first ++ v.second);
    }

    in_split : (v : Three) → Met test x y z v → Outside x y z 0 v
    unfolding test
    in_split v m = (
      length v.first,
      zero_bit (length v.first),
      record {
        in_first = m.in_first;
        in_second = m.in_second;
        in_third = m.in_third;
        long = refl;
        followed = same_true v.third (v.first ++ v.second) m.meeting;
      },
    )

    met-support : (f : Three → ℕ → ℕ) (r : List ℕ) → Supports (Outside x y z 0) f 64 r → Supports (Met test x y z) f 64 r
    met-support f r = moved-support (Outside x y z 0) (Met test x y z) f f 64 r (λ v k. (v, of-split v k, λ i h. refl)) (λ v m. (v, in_split v m, λ i h. refl))

    pub cat-narrowed : (rx ry rz : List ℕ) → Supported (Outside x y z 0) rx ry rz → rx ++ (ry ++ rz) ≡ narrowed (alone 3 0 []) (cat 0 1 2) (x ++ (y ++ z))
    unfolding variables meets test
    cat-narrowed rx ry rz s = three-narrowed (cat 0 1 2) test refl (λ α. refl) x y z lx ly lz bx bY bz rx ry rz (record {
      firsts = met-support (λ v. text_bit v.first) rx s.firsts;
      seconds = met-support (λ v. text_bit v.second) ry s.seconds;
      thirds = met-support (λ v. text_bit v.third) rz s.thirds;
    })
