-- One law for each answer of the readers: the answer is the definition's, at any fuel that is enough. Assumes nothing.
use mathlib.Core.Path.{◌≡◌, refl, sym, ap, ap₂, subst, ◌∙◌}
use mathlib.Core.Bool.{true, false, ◌&&◌, ◌||◌}
use mathlib.Core.List.{List}
use Prim.Native.Nat.{ℕ, zero, suc, ◌+◌, ◌-◌, ◌*◌, ◌^◌, ◌≤◌, ◌<◌}
use native.Mathlib.Omega.{arith}
use lib.Bits.{bit_or, or_zero_r}
use lib.ListN.{length, get_or}
use borrow.Author.Tests.{eq-eqb, ne_eqb, lt-ltb, le-ltb}
use Rattle.model.specs.Words.{bit}
use Rattle.laws.proofs.WordLaws.{or_assoc}
use Rattle.model.specs.Pattern.{Pattern, empty, letter, either, both, many}
use Rattle.model.specs.PatternText.{Parsed, bad, parsed, then_read, sees, ended, starred, symbol_of, symbol_at, pattern_at, branch_at, item_at, parse}
use Rattle.model.specs.PatternStates.{when, nullable, first, last, follow}
use Rattle.parser.specs.declared.Part.{Part}
use Rattle.std.specs.Prelude.{Option, Some, None}
use Rattle.parser.specs.Reads.{EitherOf, BothOf, Linked, Holds, Followed, Says, Starred}
use Rattle.patterns.proofs.FuelLaws.{sees_lt}

-- ---- the sets of a pattern from those of its parts

pub holds-either : (e f : Pattern) (p q : ℕ) (a b d : Part) → Holds e p a → Holds f q b → EitherOf a b d → Holds (either e f) q d
unfolding nullable first last
holds-either e f p q a b d h k o = record {
  ends = o.0 ∙ k.ends;
  empties = o.1 ∙ ap₂ ◌||◌ h.empties k.empties;
  firsts = o.2 ∙ ap₂ bit_or h.firsts k.firsts;
  lasts = o.3 ∙ ap₂ bit_or h.lasts k.lasts;
}

pub holds-both : (e f : Pattern) (p q : ℕ) (a b d : Part) → Holds e p a → Holds f q b → BothOf a b d → Holds (both e f) q d
unfolding nullable first last
holds-both e f p q a b d h k o = record {
  ends = o.0 ∙ k.ends;
  empties = o.1 ∙ ap₂ ◌&&◌ h.empties k.empties;
  firsts = o.2 ∙ ap₂ bit_or h.firsts (ap₂ when h.empties k.firsts);
  lasts = o.3 ∙ ap₂ bit_or (ap₂ when k.empties h.lasts) k.lasts;
}

pub followed-either : (e f : Pattern) (F G H : List ℕ) → Followed F e G → Followed G f H → Followed F (either e f) H
unfolding follow
followed-either e f F G H a b = record {
  size = b.size ∙ a.size;
  each = λ p l. b.each p l ∙ ap (λ (w : ℕ). bit_or w (follow f p)) (a.each p l) ∙ or_assoc (get_or F p 0) (follow e p) (follow f p);
}

pub followed-both : (e f : Pattern) (F G H K : List ℕ) (p q : ℕ) (a b : Part) → Holds e p a → Holds f q b → Followed F e G → Followed G f H
    → Linked H a.last b.first K → Followed F (both e f) K
unfolding follow
followed-both e f F G H K o q a b h k x y l = record {
  size = l.size ∙ y.size ∙ x.size;
  each = λ p s. l.each p s
      ∙ ap₂ bit_or
      (y.each p s ∙ ap (λ (w : ℕ). bit_or w (follow f p)) (x.each p s) ∙ or_assoc (get_or F p 0) (follow e p) (follow f p))
      (ap₂ (λ (u v : ℕ). when (bit u p) v) h.lasts k.firsts)
      ∙ or_assoc (get_or F p 0) (bit_or (follow e p) (follow f p)) (when (bit (last e) p) (first f));
}

pub followed-many : (e : Pattern) (F G K : List ℕ) (p : ℕ) (a : Part) → Holds e p a → Followed F e G → Linked G a.last a.first K → Followed F (many e) K
unfolding follow
followed-many e F G K o a h x l = record {
  size = l.size ∙ x.size;
  each = λ p s. l.each p s
      ∙ ap₂ bit_or (x.each p s) (ap₂ (λ (u v : ℕ). when (bit u p) v) h.lasts h.firsts)
      ∙ or_assoc (get_or F p 0) (follow e p) (when (bit (last e) p) (first e));
}

pub holds-letter : (p w : ℕ) → w ≡ 2 ^ p → Holds (letter p) (p + 1) (record { end = p + 1; nullable = false; first = w; last = w })
unfolding nullable first last
holds-letter p w e = record { ends = refl; empties = refl; firsts = e; lasts = e }

pub followed-none : (F : List ℕ) → ((e : Pattern) → ((p : ℕ) → follow e p ≡ 0) → Followed F e F)
followed-none F e z = record { size = refl; each = λ p l. sym (ap (bit_or (get_or F p 0)) (z p) ∙ or_zero_r (get_or F p 0)) }

pub holds-empty : (p : ℕ) → Holds empty p (record { end = p; nullable = true; first = 0; last = 0 })
unfolding nullable first last
holds-empty p = record { ends = refl; empties = refl; firsts = refl; lasts = refl }

-- ---- an item's `*`

pub star-more : (s : List ℕ) (p : ℕ) (a : Part) (F G : List ℕ) → sees s p 42 ≡ true → Linked F a.last a.first G
    → Starred s p a (record { end = p + 1; nullable = true; first = a.first; last = a.last }) F G
unfolding starred Says nullable first last
star-more s p a F G t l = record {
  says = λ e q B h f. rw t (record { ends = refl; empties = refl; firsts = h.firsts; lasts = h.lasts }, followed-many e B F G q a h f l);
  low = omega arith;
  high = let k = sees_lt s p 42 t in omega arith;
}

pub star-none : (s : List ℕ) (p : ℕ) (a : Part) (F : List ℕ) → p ≤ length s → sees s p 42 ≡ false
    → Starred s p a (record { end = p; nullable = a.nullable; first = a.first; last = a.last }) F F
unfolding starred Says
star-none s p a F l t = record {
  says = λ e q B h f. rw t (record { ends = refl; empties = h.empties; firsts = h.firsts; lasts = h.lasts }, f);
  low = omega arith;
  high = l;
}

-- ---- what a reader's answer says of the definition's

pub says-bad : (F G : List ℕ) (x : Parsed) (r : Option Part) → Says F G x r → r ≡ None → x ≡ bad
unfolding Says
says-bad F G bad None h e = refl
says-bad F G bad (Some a) h e = refl
says-bad F G (parsed t q) None h e = absurd h
says-bad F G (parsed t q) (Some a) h e = let z : ◌≡◌ {A = ℕ} 0 1 = cc in absurd (omega arith)

pub says-found : (F G : List ℕ) (x : Parsed) (r : Option Part) (a : Part) → Says F G x r → r ≡ Some a
    → (e : Pattern) × (x ≡ parsed e a.end) × Holds e a.end a × Followed F e G
unfolding Says
says-found F G bad None a h e = let z : ◌≡◌ {A = ℕ} 0 1 = cc in absurd (omega arith)
says-found F G bad (Some b) a h e = absurd h
says-found F G (parsed t q) None a h e = absurd h
says-found F G (parsed t q) (Some b) a h e =
    let same : b ≡ a = cc in
    let end : q ≡ a.end = sym h.0.ends ∙ ap (λ (x : Part). x.end) same in
    (t, ap (parsed t) end, subst (λ (x : Part). Holds t a.end x) same (subst (λ (x : ℕ). Holds t x b) end h.0), h.1)

-- ---- one law for each answer

module _ (s : List ℕ) where
  abbrev pub Pat : ℕ → List ℕ → List ℕ → Option Part → Type 0
  Pat at F G r = (n : ℕ) → 3 * (length s - at) + 2 < n → Says F G (pattern_at n s at) r

  abbrev pub Bra : ℕ → List ℕ → List ℕ → Option Part → Type 0
  Bra at F G r = (n : ℕ) → 3 * (length s - at) + 1 < n → Says F G (branch_at n s at) r

  abbrev pub Itm : ℕ → List ℕ → List ℕ → Option Part → Type 0
  Itm at F G r = (n : ℕ) → 3 * (length s - at) < n → Says F G (item_at n s at) r

  -- a pattern, after its first branch
  module _ (at : ℕ) (F G : List ℕ) (r : Option Part) (first-branch : Bra at F G r) where
    pub pat_bad : r ≡ None → Pat at F G None
    unfolding pattern_at then_read Says
    pat_bad e zero l = absurd (omega arith)
    pat_bad e (suc n) l = let b = says-bad F G (branch_at n s at) r (first-branch n (omega arith)) e in rw b tt

    module _ (a : Part) (read : r ≡ Some a) where
      pub pat_ends : sees s a.end 124 ≡ false → Pat at F G (Some a)
      unfolding pattern_at then_read Says
      pat_ends t zero l = absurd (omega arith)
      pat_ends t (suc n) l =
          let b = says-found F G (branch_at n s at) r a (first-branch n (omega arith)) read in
          rw (b.1, t) (b.2, b.3)

      module _ (low : at ≤ a.end) (bar : sees s a.end 124 ≡ true) (H : List ℕ) (r' : Option Part) (others : Pat (a.end + 1) G H r') where
        pub pat_more-bad : r' ≡ None → Pat at F H None
        unfolding pattern_at then_read Says
        pat_more-bad e zero l = absurd (omega arith)
        pat_more-bad e (suc n) l =
            let b = says-found F G (branch_at n s at) r a (first-branch n (omega arith)) read in
            let k = sees_lt s a.end 124 bar in
            let m = says-bad G H (pattern_at n s (a.end + 1)) r' (others n (omega arith)) e in
            rw (b.1, bar, m) tt

        pub pat_more : (c d : Part) → r' ≡ Some c → EitherOf a c d → Pat at F H (Some d)
        unfolding pattern_at then_read Says
        pat_more c d e o zero l = absurd (omega arith)
        pat_more c d e o (suc n) l =
            let b = says-found F G (branch_at n s at) r a (first-branch n (omega arith)) read in
            let k = sees_lt s a.end 124 bar in
            let m = says-found G H (pattern_at n s (a.end + 1)) r' c (others n (omega arith)) e in
            rw (b.1, bar, m.1) (holds-either b.0 m.0 _ _ a c d b.2 m.2 o, followed-either b.0 m.0 F G H b.3 m.3)

  -- a branch that has ended, and one with an item
  pub bra_none : (at : ℕ) (F : List ℕ) → ended s at ≡ true → Bra at F F (Some (record { end = at; nullable = true; first = 0; last = 0 }))
  unfolding branch_at Says follow
  bra_none at F t zero l = absurd (omega arith)
  bra_none at F t (suc n) l = rw t (holds-empty at, followed-none F empty (λ p. refl))

  module _ (at : ℕ) (going : ended s at ≡ false) (here : at < length s) (F G : List ℕ) (r : Option Part) (first-item : Itm at F G r) where
    pub bra_bad : r ≡ None → Bra at F G None
    unfolding branch_at then_read Says
    bra_bad e zero l = absurd (omega arith)
    bra_bad e (suc n) l = let b = says-bad F G (item_at n s at) r (first-item n (omega arith)) e in rw (going, b) tt

    module _ (a : Part) (read : r ≡ Some a) (low : at + 1 ≤ a.end) (H : List ℕ) (r' : Option Part) (others : Bra a.end G H r') where
      pub bra_more-bad : r' ≡ None → Bra at F H None
      unfolding branch_at then_read Says
      bra_more-bad e zero l = absurd (omega arith)
      bra_more-bad e (suc n) l =
          let b = says-found F G (item_at n s at) r a (first-item n (omega arith)) read in
          let m = says-bad G H (branch_at n s a.end) r' (others n (omega arith)) e in
          rw (going, b.1, m) tt

      pub bra_more : (c d : Part) (K : List ℕ) → r' ≡ Some c → Linked H a.last c.first K → BothOf a c d → Bra at F K (Some d)
      unfolding branch_at then_read Says
      bra_more c d K e k o zero l = absurd (omega arith)
      bra_more c d K e k o (suc n) l =
          let b = says-found F G (item_at n s at) r a (first-item n (omega arith)) read in
          let m = says-found G H (branch_at n s a.end) r' c (others n (omega arith)) e in
          rw (going, b.1, m.1) (holds-both b.0 m.0 _ _ a c d b.2 m.2 o, followed-both b.0 m.0 F G H K _ _ a c b.2 m.2 b.3 m.3 k)

  -- an item: a group, a letter, or neither
  module _ (at : ℕ) (opens : get_or s at 0 ≡ 40) (here : at < length s) (F G : List ℕ) (r : Option Part) (inner : Pat (at + 1) F G r) where
    pub itm_bad : r ≡ None → Itm at F G None
    unfolding item_at then_read Says
    itm_bad e zero l = absurd (omega arith)
    itm_bad e (suc n) l = let b = says-bad F G (pattern_at n s (at + 1)) r (inner n (omega arith)) e in rw (opens, b) tt

    module _ (a : Part) (read : r ≡ Some a) where
      pub itm_unclosed : sees s a.end 41 ≡ false → Itm at F G None
      unfolding item_at then_read Says
      itm_unclosed t zero l = absurd (omega arith)
      itm_unclosed t (suc n) l =
          let b = says-found F G (pattern_at n s (at + 1)) r a (inner n (omega arith)) read in
          rw (opens, b.1, t) tt

      pub itm_group : (d : Part) (H : List ℕ) → sees s a.end 41 ≡ true → Starred s (a.end + 1) a d G H → Itm at F H (Some d)
      unfolding item_at then_read
      itm_group d H t k zero l = absurd (omega arith)
      itm_group d H t k (suc n) l =
          let b = says-found F G (pattern_at n s (at + 1)) r a (inner n (omega arith)) read in
          rw (opens, b.1, t) (k.says b.0 a.end F b.2 b.3)

  module _ (at : ℕ) (not-open : get_or s at 0 ≡ 40 → ⊥) where
    pub itm_letter : (F G : List ℕ) (w : ℕ) (d : Part) → w ≡ 2 ^ at → symbol_of (get_or s at 0) < 39
        → Starred s (at + 1) (record { end = at + 1; nullable = false; first = w; last = w }) d F G → Itm at F G (Some d)
    unfolding item_at symbol_at follow
    itm_letter F G w d e t k zero l = absurd (omega arith)
    itm_letter F G w d e t k (suc n) l =
        rw (ne_eqb (get_or s at 0) 40 not-open, lt-ltb (symbol_of (get_or s at 0)) 39 t) (k.says (letter at) (at + 1) F (holds-letter at w e) (followed-none F (letter at) (λ p. refl)))

    pub itm_other : (F : List ℕ) → 39 ≤ symbol_of (get_or s at 0) → Itm at F F None
    unfolding item_at symbol_at Says
    itm_other F t zero l = absurd (omega arith)
    itm_other F t (suc n) l = rw (ne_eqb (get_or s at 0) 40 not-open, le-ltb (symbol_of (get_or s at 0)) 39 t) tt

  -- the whole text
  module _ (F G : List ℕ) (r : Option Part) (all : Pat 0 F G r) where
    pub text-bad : r ≡ None → Says F G (parse s) None
    unfolding parse then_read Says
    text-bad e = let b = says-bad F G (pattern_at (3 * length s + 3) s 0) r (all (3 * length s + 3) (omega arith)) e in rw b tt

    module _ (a : Part) (read : r ≡ Some a) where
      pub text-whole : a.end ≡ length s → Says F G (parse s) (Some a)
      unfolding parse then_read Says
      text-whole e =
          let b = says-found F G (pattern_at (3 * length s + 3) s 0) r a (all (3 * length s + 3) (omega arith)) read in
          rw (b.1, eq-eqb a.end (length s) e) (b.2, b.3)

      pub text-more : (a.end ≡ length s → ⊥) → Says F G (parse s) None
      unfolding parse then_read Says
      text-more e =
          let b = says-found F G (pattern_at (3 * length s + 3) s 0) r a (all (3 * length s + 3) (omega arith)) read in
          rw (b.1, ne_eqb a.end (length s) e) tt
