-- Which of the words that a constraint names have a bit: the loops over its strings. Assumes nothing.
use mathlib.Core.Path.{◌≡◌, refl, sym, ap, subst, ◌∙◌}
use mathlib.Core.Logic.{◌≢◌, ⊎_elim}
use mathlib.Core.Bool.{Bool, true, false, not, ◌||◌, false≢true}
use mathlib.Core.List.Memᴰ
use mathlib.Core.List.{List, [], ◌∷◌, ◌++◌, map, map-append}
use Prim.Native.Nat.{ℕ, ◌+◌, ◌*◌, ◌<◌}
use native.Mathlib.Omega.{arith}
use lib.Dec.{eqb}
use lib.ListN.{length, get_or, take}
use borrow.Author.Tests.{eqb-true, eqb-false}
use Rattle.model.specs.Words.{word}
use Rattle.laws.specs.Inclusion.{In}
use Rattle.laws.proofs.ListLaws.{get_or_in, not_true, not_false, or_true, or_false}
use Rattle.std.specs.Prelude.{Option, Some}
use Rattle.std.specs.Option.{option_to_list}
use Rattle.records.specs.declared.names.Names.{Names}
use Rattle.steps.specs.Names.{texts, numbers}
use Rattle.steps.proofs.TidyLaws.{take_next}
use Rattle.striking.specs.Named.{Lengths, firsts, Holds}

-- ---- lengths

pub lengths_none : (T : List ℕ) → Lengths [] T true
lengths_none T = record { each = λ q x m. elim m [ ]; none = λ q. absurd (false≢true (sym q)) }

lengths-next : (xs : List ℕ) (x : ℕ) (T : List ℕ) → word T (64 * x) ≢ 0 → Lengths xs T true → Lengths (xs ++ (x ∷ [])) T true
lengths-next xs x T some g = record { each = λ q y m. ⊎_elim (λ i. g.each refl y i) (λ i. last y i) (Memᴰ.append_cases xs m); none = λ q. absurd (false≢true (sym q)) }
  where
    last : (y : ℕ) → In y (x ∷ []) → 0 < word T (64 * y)
    last y (Memᴰ.head e) = subst (λ (z : ℕ). 0 < word T (64 * z)) (sym e) (omega arith)
    last y (Memᴰ.tail k) = elim k [ ]

module _ (T : List ℕ) (xs : List ℕ) where
  pub lengths-turn : (j : ℕ) → j < length xs → word T (64 * get_or xs j 0) ≢ 0 → Lengths (take j xs) T true → Lengths (take (j + 1) xs) T true
  lengths-turn j h some g = subst (λ (ys : List ℕ). Lengths ys T true) (sym (take_next xs j h)) (lengths-next (take j xs) (get_or xs j 0) T some g)

  pub lengths-stop : (j : ℕ) → j < length xs → word T (64 * get_or xs j 0) ≡ 0 → Lengths xs T false
  lengths-stop j h z = record { each = λ q. absurd (false≢true q); none = λ q. (get_or xs j 0, get_or_in xs j 0 h, z) }

-- ---- anything

pub holds-none : (T : List ℕ) → Holds [] T false
holds-none T = record { none = λ q i m. elim m [ ]; one = λ q. absurd (false≢true q) }

holds-next : (is : List ℕ) (i : ℕ) (T : List ℕ) (a : Bool) → Holds is T a → Holds (is ++ (i ∷ [])) T (a || not (eqb (word T i) 0))
holds-next is i T a g = record {
  none = λ q k m.
      let f = or_false a (not (eqb (word T i) 0)) q in
      ⊎_elim (λ n. g.none f.0 k n) (λ n. last (eqb-true (word T i) 0 (not_false _ f.1)) k n) (Memᴰ.append_cases is m);
  one = λ q. ⊎_elim
      (λ l. let t = g.one l in (t.0, Memᴰ.append_left (i ∷ []) t.1, t.2))
      (λ r. (i, Memᴰ.append_right is (Memᴰ.head refl), eqb-false (word T i) 0 (not_true _ r)))
      (or_true a (not (eqb (word T i) 0)) q);
}
  where
    last : word T i ≡ 0 → (k : ℕ) → In k (i ∷ []) → word T k ≡ 0
    last z k (Memᴰ.head e) = ap (word T) e ∙ z
    last z k (Memᴰ.tail n) = elim n [ ]

-- of the strings that were looked at
abbrev at-lengths : List ℕ → List ℕ
at-lengths xs = map (λ x. 64 * x) xs

pub holds-turn : (T : List ℕ) (xs : List ℕ) (j : ℕ) → j < length xs → {a b : Bool} → Holds (map (λ x. 64 * x) (take j xs)) T a
    → b ≡ (a || not (eqb (word T (64 * get_or xs j 0)) 0)) → Holds (map (λ x. 64 * x) (take (j + 1) xs)) T b
holds-turn T xs j h {a} {b} g e =
    let q : at-lengths (take (j + 1) xs) ≡ at-lengths (take j xs) ++ (64 * get_or xs j 0 ∷ []) =
    ap at-lengths (take_next xs j h) ∙ map-append (λ x. 64 * x) (take j xs) (get_or xs j 0 ∷ []) in
    subst (λ (t : Bool). Holds (at-lengths (take (j + 1) xs)) T t) (sym e)
    (subst (λ (is : List ℕ). Holds is T (a || not (eqb (word T (64 * get_or xs j 0)) 0))) (sym q)
    (holds-next (at-lengths (take j xs)) (64 * get_or xs j 0) T a g))

module _ (m : Names) (T : List ℕ) {a : Bool} (g : Holds (map (λ x. 64 * x) (texts m)) T a) where
  -- and with one
  pub holds-last : {i : ℕ} → m.number ≡ Some i → {b : Bool} → b ≡ (a || not (eqb (word T i) 0)) → Holds (firsts (texts m) (numbers m)) T b
  holds-last {i} q {b} d = subst (λ (n : Option ℕ). Holds (firsts (texts m) (option_to_list n)) T b) (sym q)
      (subst (λ (t : Bool). Holds (at-lengths (texts m) ++ (i ∷ [])) T t) (sym d) (holds-next (at-lengths (texts m)) i T a g))
