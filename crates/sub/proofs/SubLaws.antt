-- Sub by support: all choices are those of the starts 1 to 63, and the rows and the word that the functions make are what they use. Assumes nothing.
use mathlib.Core.Path.{◌≡◌, refl, sym, ap, subst, ◌∙◌}
use mathlib.Core.Bool.{true, false≢true}
use mathlib.Core.List.{List, [], ◌∷◌, ◌++◌}
use Prim.Native.Nat.{ℕ, zero, suc, ◌+◌, ◌^◌, ◌≤◌, ◌<◌}
use native.Mathlib.Omega.{arith}
use lib.Dec.{leb}
use lib.ListN.{length, get_or, take, drop, length-drop}
use lib.Seq.{length-take-le, get_or-take, get_or-drop, ext_get_or}
use borrow.Author.Tests.{leb-true, le-leb}
use Rattle.model.specs.Lists.{same}
use Rattle.model.specs.Words.{bit, bits, word, Words}
use Rattle.model.specs.Constraints.{sub, variables, meets, is_part}
use Rattle.model.specs.Solutions.{text_bit}
use Rattle.model.specs.Support.{narrowed}
use Rattle.words.specs.Ends.{Lowest}
use Rattle.rows.specs.Rows.{alone}
use Rattle.rows.proofs.TrimLaws.{some-bit}
use Rattle.laws.specs.Supported.{Supports, OfKinds}
use Rattle.laws.proofs.ListLaws.{and_true, true_and, same_true, same_refl}
use Rattle.laws.proofs.WordLaws.{zero_bit, pow_self, pow-only}
use Rattle.laws.proofs.RowLaws.{length-used}
use Rattle.laws.proofs.PartLaws.{part-test}
use Rattle.laws.proofs.Supports.{moved-support, none-support}
use Rattle.inplace.specs.InTable.{Tidy, zeros}
use Rattle.inplace.proofs.Tables.{bit-some}
use Rattle.sub.specs.Substrings.{Alive, Somewhere, Started, Allowed}
use Rattle.sub.proofs.PartRows.{Part, Supported, Met, part-narrowed}
use Rattle.sub.proofs.TidyLaws.{Longest, tidy-longest}
use Rattle.sub.proofs.RowsAt.{whole_row, whole_of, whole_in, whole-supports}
use Rattle.sub.proofs.StartLaws.{PartAt, wholes_supported, choice-alive, around, of-fits, in_fits}

-- ---- a part by its symbols

part_same : (x y : List ℕ) (off : ℕ) → off + length y ≤ length x → ((j : ℕ) → j < length y → get_or x (off + j) 0 ≡ get_or y j 0) → y ≡ take (length y) (drop off x)
part_same x y off h e =
    let ld = length-drop off x in
    let l : length (take (length y) (drop off x)) ≡ length y = length-take-le (length y) (drop off x) (omega arith) in
    ext_get_or 0 y (take (length y) (drop off x)) (sym l) (λ j k. sym (get_or-take (length y) (drop off x) j 0 k ∙ get_or-drop off x j 0 ∙ e j k))

same-part : (x y : List ℕ) (off : ℕ) → y ≡ take (length y) (drop off x) → (j : ℕ) → j < length y → get_or x (off + j) 0 ≡ get_or y j 0
same-part x y off e j h = sym (get_or-drop off x j 0) ∙ sym (get_or-take (length y) (drop off x) j 0 h) ∙ ap (λ (w : List ℕ). get_or w j 0) (sym e)

module _ (x y : List ℕ) (n : ℕ) (lx : length x ≡ 64) (ly : length y ≡ 64) (bx : Words x) (bY : Words y) (bn : (b : ℕ) → bit n b ≡ true → b < 64) where
  of-start : (v : Part) → OfKinds (PartAt x y n) 63 v → Met is_part x y n v
  of-start v k =
      let off = k.0 in
      let p = k.2 in
      let r = p.reached in
      let q : v.part ≡ take (length v.part) (drop off v.whole) = part_same v.whole v.part off (omega arith) p.found in
      let reached = le-leb (off + length v.part) (length v.whole) r in
      let found : same v.part (take (length v.part) (drop off v.whole)) ≡ true = ap (same v.part) (sym q) ∙ same_refl v.part in
      record {
        in_whole = p.in_whole;
        in_part = p.in_part;
        in_start = p.in_start;
        meeting = ap (is_part v.whole v.part) p.starts ∙ part-test v.whole v.part off ∙ true_and reached found;
      }

  in_start : (v : Part) → Met is_part x y n v → OfKinds (PartAt x y n) 63 v
  unfolding is_part
  in_start v m = go v.start refl
    where
      go : (s : ℕ) → v.start ≡ s → OfKinds (PartAt x y n) 63 v
      go zero e = absurd (false≢true (ap (is_part v.whole v.part) (sym e) ∙ m.meeting))
      go (suc off) e =
          let h = bn v.start m.in_start in
          let t = and_true (leb (off + length v.part) (length v.whole)) (same v.part (take (length v.part) (drop off v.whole)))
          (sym (part-test v.whole v.part off) ∙ ap (is_part v.whole v.part) (sym e) ∙ m.meeting) in (
            off,
            omega arith,
            record {
              in_whole = m.in_whole;
              in_part = m.in_part;
              in_start = m.in_start;
              starts = e;
              reached = leb-true (off + length v.part) (length v.whole) t.0;
              found = same-part v.whole v.part off (same_true v.part (take (length v.part) (drop off v.whole)) t.1);
            },
          )

  met-support : (f : Part → ℕ → ℕ) (k : ℕ) (r : List ℕ) → Supports (OfKinds (PartAt x y n) 63) f k r → Supports (Met is_part x y n) f k r
  met-support f k r = moved-support (OfKinds (PartAt x y n) 63) (Met is_part x y n) f f k r (λ v o. (v, of-start v o, λ i h. refl))
      (λ v m. (v, in_start v m, λ i h. refl))

  sub-narrowed : (rx ry : List ℕ) (rn : ℕ) → Supported (OfKinds (PartAt x y n) 63) rx ry rn
      → rx ++ (ry ++ (rn ∷ [])) ≡ narrowed (alone 2 1 []) (sub 0 1 0) (x ++ (y ++ (n ∷ [])))
  unfolding variables meets
  sub-narrowed rx ry rn s = part-narrowed (sub 0 1 0) is_part refl (λ α. refl) x y n lx ly bx bY bn rx ry rn (record {
    wholes = met-support (λ v. text_bit v.whole) 64 rx s.wholes;
    parts = met-support (λ v. text_bit v.part) 64 ry s.parts;
    starts = met-support (λ v i. 2 ^ v.start) 1 (rn ∷ []) s.starts;
  })

  -- ---- the rows that the functions make

  module _ (tidy : Tidy x) (least : ℕ) (low : Lowest (word y 0) least) (found : ℕ) (r : List ℕ) (s : Started x y n least tidy.top 0 found r) where
    longest : Longest x tidy.top
    longest = tidy-longest x lx bx tidy

    choice-found : (off : ℕ) (v : Part) → PartAt x y n off v → bit found (suc off) ≡ true
    choice-found off v p = s.complete off (ap (bit n) (sym p.starts) ∙ p.in_start) (zero_bit off)
        (choice-alive x y n off least low tidy.top longest v p)

    -- no start is left
    pub sub-none : found ≡ 0 → zeros ++ (zeros ++ (0 ∷ [])) ≡ narrowed (alone 2 1 []) (sub 0 1 0) (x ++ (y ++ (n ∷ [])))
    sub-none z = sub-narrowed zeros zeros 0 (record {
      wholes = none-support (OfKinds (PartAt x y n) 63) (λ v. text_bit v.whole) 64 never;
      parts = none-support (OfKinds (PartAt x y n) 63) (λ v. text_bit v.part) 64 never;
      starts = none-support (OfKinds (PartAt x y n) 63) (λ v i. 2 ^ v.start) 1 never;
    })
      where
        never : (v : Part) → OfKinds (PartAt x y n) 63 v → ⊥
        never v o = false≢true (sym (zero_bit (suc o.0)) ∙ ap (λ (w : ℕ). bit w (suc o.0)) (sym z) ∙ choice-found o.0 v o.2)

    -- a start that is left
    module _ (off : ℕ) (f : bit found (suc off) ≡ true) where
      allowed : bit n (suc off) ≡ true
      allowed = (s.sound (suc off) f).0

      alive : Alive x y off least tidy.top
      alive = let t = (s.sound (suc off) f).1 in let d : t.0 ≡ off = let e = t.1 in omega arith in subst (λ (k : ℕ). Alive x y k least tidy.top) d t.2

      small : off < 63
      small = let h = bn (suc off) allowed in omega arith

      whole-right : Supports (PartAt x y n off) (λ v. text_bit v.whole) 64 (whole_row x y off least)
      whole-right = wholes_supported x y n off least low allowed (whole_row x y off least) (whole-supports x y off least bx tidy alive)

      start-choice : (v : Part) × PartAt x y n off v
      start-choice = let t = whole-right.sound 0 tidy.top (omega arith) (whole_in x y off least bx 0 tidy.top (omega arith)
          (record { own = tidy.longest.here; long = λ e. alive.far; part = λ j l e. absurd (omega arith) })) in (t.0, t.1)

    -- a start that is left has a part
    pub parts-some : 0 < found → 0 < word r 0
    parts-some h = at (s.sound _ top) top
      where
        top : bit found (get_or (bits found) 0 0) ≡ true
        top = some-bit found (λ b e. bn b (s.sound b e).0) h

        at : {b : ℕ} → (bit n b ≡ true) × ((off : ℕ) × (b ≡ suc off) × Alive x y off least tidy.top) → bit found b ≡ true → 0 < word r 0
        at t e =
            let off = t.1.0 in
            let f : bit found (suc off) ≡ true = ap (bit found) (sym t.1.1) ∙ e in
            let c = start-choice off f in
            bit-some (word r 0) (length c.0.part)
            (s.parts.complete 0 (length c.0.part) (omega arith) c.0.part (off, f, in_fits x y n off tidy.top longest c.0 c.1)
            (length-used c.0.part))

    parts-right : Supports (OfKinds (PartAt x y n) 63) (λ v. text_bit v.part) 64 r
    parts-right = moved-support (Somewhere x y tidy.top found) (OfKinds (PartAt x y n) 63) text_bit (λ v. text_bit v.part) 64 r
        (λ v o. (
          record {
            whole = around x y n o.0 tidy.top longest v;
            part = v;
            start = suc o.0;
          },
          (o.0, small o.0 o.1, of-fits x y n o.0 tidy.top longest (allowed o.0 o.1) v o.2),
          λ i h. refl,
        ))
        (λ v o. (v.part, (o.0, choice-found o.0 v o.2, in_fits x y n o.0 tidy.top longest v o.2), λ i h. refl))
        s.parts

    starts-right : Supports (OfKinds (PartAt x y n) 63) (λ v i. 2 ^ v.start) 1 (found ∷ [])
    starts-right = record {
      count = refl;
      sound = elim [ zero ↦ λ b h e. at b e (s.sound b e).1 | suc i ↦ λ b h e. absurd (omega arith) ];
      complete = elim [
        | zero ↦ λ b h v o e. ap (bit found) (pow-only v.start b e ∙ o.2.starts) ∙ choice-found o.0 v o.2
        | suc i ↦ λ b h v o e. absurd (omega arith)
      ];
    }
      where
        at : (b : ℕ) → bit found b ≡ true → (off : ℕ) × (b ≡ suc off) × Alive x y off least tidy.top
            → (v : Part) × OfKinds (PartAt x y n) 63 v × (bit (2 ^ v.start) b ≡ true)
        at b e t =
            let f : bit found (suc t.0) ≡ true = ap (bit found) (sym t.1) ∙ e in
            let c = start-choice t.0 f in
            (c.0, (t.0, small t.0 f, c.1), ap (λ (k : ℕ). bit (2 ^ k) b) (c.1.starts ∙ sym t.1) ∙ pow_self b)

    module _ (u : List ℕ) (lu : length u ≡ 64)
        (sound : (i a : ℕ) → i < 64 → bit (word u i) a ≡ true → (off : ℕ) × (bit found (suc off) ≡ true) × Allowed x y off least i a)
        (complete : (i a off : ℕ) → i < 64 → bit found (suc off) ≡ true → Allowed x y off least i a → bit (word u i) a ≡ true) where
      wholes-right : Supports (OfKinds (PartAt x y n) 63) (λ v. text_bit v.whole) 64 u
      wholes-right = record {
        count = lu;
        sound = λ i a h e.
            let t = sound i a h e in
            let c = (whole-right t.0 t.1).sound i a h (whole_in x y t.0 least bx i a h t.2) in
            (c.0, (t.0, small t.0 t.1, c.1), c.2);
        complete = λ i a h v o e.
            let f = choice-found o.0 v o.2 in
            complete i a o.0 h f (whole_of x y o.0 least bx i a h ((whole-right o.0 f).complete i a h v o.2 e));
      }

      pub sub-some : u ++ (r ++ (found ∷ [])) ≡ narrowed (alone 2 1 []) (sub 0 1 0) (x ++ (y ++ (n ∷ [])))
      sub-some = sub-narrowed u r found (record { wholes = wholes-right; parts = parts-right; starts = starts-right })
