-- Strings trimmed one after the other, where that is not known to strike nothing. Assumes nothing.
use mathlib.Core.Path.{◌≡◌, refl, sym, ap, subst, ◌∙◌}
use mathlib.Core.Logic.{◌≢◌, ⊎_elim}
use mathlib.Core.Bool.{Bool, true, false, not, ◌||◌, false≢true}
use mathlib.Core.List.Memᴰ
use mathlib.Core.List.{List, [], ◌∷◌, ◌++◌}
use Prim.Native.Nat.{ℕ, zero, suc, ◌+◌, ◌^◌, ◌<◌}
use native.Mathlib.Omega.{arith}
use lib.Bits.{bit_or}
use lib.Dec.{eqb}
use lib.ListN.{length, get_or, take}
use borrow.Author.Tests.{eqb-true, eqb-false}
use Rattle.model.specs.Words.{bit, Words, size}
use Rattle.model.specs.Domains.{str}
use Rattle.model.specs.Constraints.{Problem, Constraint, always, variables, width}
use Rattle.model.specs.Support.{narrowed, struck}
use Rattle.laws.specs.Inclusion.{In, Below}
use Rattle.laws.proofs.ListLaws.{not_true, not_false, or_true, or_false}
use Rattle.laws.proofs.WordLaws.{or-bit-left, or-bit-right, of-or-bit, pow_self, pow-only}
use Rattle.laws.proofs.TableLaws.{below_refl, below_trans, below_antisym, below-words, struck-none, struck-size}
use Rattle.laws.proofs.SupportLaws.{narrowed-below, narrowed-again}
use Rattle.shortcuts.proofs.WaitLaws.{ranged-trim}
use Rattle.shortcuts.proofs.RunningLaws.{trimmed-step}
use Rattle.inplace.proofs.Tidied.{tidied_narrowed}
use Rattle.steps.specs.Step.{Step}
use Rattle.steps.proofs.TidyLaws.{take_next}
use Rattle.striking.specs.Strikes.{Strikes, TrimmedIn}
use Rattle.striking.specs.Named.{Known, Trims, Trimming}

-- ---- bits are struck just where the table differs

same-struck : (T U : List ℕ) → Below U T → U ≡ T → struck T U ≡ 0
same-struck T U b e = let s = struck-size T U b in let z = ap size e in omega arith

pub strikes_where : (P : Problem) (c : Constraint) (T U : List ℕ) (changed : Bool) → Words T → U ≡ narrowed P c T → (changed ≡ false → U ≡ T) → (changed ≡ true → U ≢ T)
    → Strikes P c T U changed
strikes_where P c T U changed bd e none some = record { table = e; none = λ q. same-struck T U below (none q); some = λ q. go q (struck T U) refl }
  where
    below : Below U T
    below = subst (λ (W : List ℕ). Below W T) (sym e) (narrowed-below P c T)

    go : changed ≡ true → (n : ℕ) → struck T U ≡ n → 0 < struck T U
    go q zero z = absurd (some q (struck-none T U below bd z))
    go q (suc n) z = omega arith

-- two steps one after the other: where the last table is the first, so is the one between them
pub between : {T U W : List ℕ} → Below W U → Below U T → W ≡ T → U ≡ T
between {T} {U} a b e = below_antisym b (subst (λ (S : List ℕ). Below S U) e a)

-- ---- one string

own : (x : ℕ) (C : ℕ → Type 0) → C x → (y : ℕ) → In y (x ∷ []) → C y
own x C a y m = elim m [ Memᴰ.head e ↦ subst C (sym e) a | Memᴰ.tail k ↦ elim k [ ] ]

-- nothing is done where it is known to be trimmed
pub trimming_known : (T : List ℕ) (x w : ℕ) → bit w x ≡ true → Trimming (x ∷ []) T w T false w
trimming_known T x w e = record {
  trims = λ P k h. record {
    below = below_refl T;
    same = λ c r n. refl;
    known = k.trimmed;
    kept = λ b q. q;
    all = own x (λ y. bit w y ≡ true) e;
    none = λ q. refl;
    some = λ q. absurd (false≢true q);
  };
}

-- it is trimmed, and the bits are counted
pub trimming_counted : (T U : List ℕ) (x w n b : ℕ) → ((P : Problem) → length T ≡ width P → x < P.strings → Step P (always x) T U n) → b ≡ 2 ^ x
    → Trimming (x ∷ []) T w U (not (eqb n 0)) (bit_or w b)
trimming_counted T U x w n b s one = record { trims = λ P k h. done P k (h x (Memᴰ.head refl)) }
  where
    done : (P : Problem) → Known P w T → x < P.strings → Trims P (x ∷ []) T w U (not (eqb n 0)) (bit_or w b)
    done P k h = record {
      below = below;
      same = λ c r m. ap (narrowed P c) t.table ∙ tidied_narrowed P c r x (m x (Memᴰ.head refl)) T k.long;
      known = λ y l q. subst (λ (W : List ℕ). narrowed P (always y) W ≡ W) (sym t.table) (⊎_elim
          (λ old. trimmed-step P (always x) (ranged-trim P x h) T k.long y l (k.trimmed y l old))
          (λ new. subst (λ (z : ℕ). narrowed P (always z) (narrowed P (always x) T) ≡ narrowed P (always x) T) (sym (pow-only x y (subst (λ (v : ℕ). bit v y ≡ true) one new)))
          (narrowed-again P (always x) T k.long (ranged-trim P x h)))
          (of-or-bit w b y q));
      kept = λ y q. or-bit-left w b y q;
      all = own x (λ y. bit (bit_or w b) y ≡ true) (or-bit-right w b x (subst (λ (v : ℕ). bit v x ≡ true) (sym one) (pow_self x)));
      none = λ q. struck-none T U below k.words (sym t.count ∙ eqb-true n 0 (not_false _ q));
      some = λ q e. eqb-false n 0 (not_true _ q) (t.count ∙ same-struck T U below e);
    }
      where
        t : Step P (always x) T U n
        t = s P k.long h

        below : Below U T
        below = subst (λ (W : List ℕ). Below W T) (sym t.table) (narrowed-below P (always x) T)

-- that is the step that trims it
pub trimming_strikes : (P : Problem) (x : ℕ) → x < P.strings → (T : List ℕ) (w : ℕ) → Known P w T → {U : List ℕ} {changed : Bool} {v : ℕ} → Trimming (x ∷ []) T w U changed v
    → Strikes P (always x) T U changed × TrimmedIn P v U
unfolding variables
trimming_strikes P x h T w k {U} {changed} {v} g =
    let t = g.trims P k (own x (λ y. y < P.strings) h) in
    let is : U ≡ narrowed P (always x) T = sym (t.known x h (t.all x (Memᴰ.head refl)))
    ∙ t.same (always x) (ranged-trim P x h) (own x (λ y. In (str y) (variables (always x))) (Memᴰ.head refl)) in
    (strikes_where P (always x) T U changed k.words is t.none t.some, t.known)

-- ---- one after the other

pub trimming_none : (T : List ℕ) (w : ℕ) → Trimming [] T w T false w
trimming_none T w = record {
  trims = λ P k h. record {
    below = below_refl T;
    same = λ c r n. refl;
    known = k.trimmed;
    kept = λ b q. q;
    all = λ x m. elim m [ ];
    none = λ q. refl;
    some = λ q. absurd (false≢true q);
  };
}

-- what is known of the table then
pub known-after : {P : Problem} {xs T : List ℕ} {w : ℕ} {U : List ℕ} {changed : Bool} {v : ℕ} → Known P w T → Trims P xs T w U changed v → Known P v U
known-after k t = record { long = t.below.same_length ∙ k.long; words = below-words t.below k.words; trimmed = t.known }

trimming_next : (xs : List ℕ) (x : ℕ) {T : List ℕ} {w : ℕ} {U : List ℕ} {a : Bool} {v : ℕ} {W : List ℕ} {b : Bool} {u : ℕ} → Trimming xs T w U a v → Trimming (x ∷ []) U v W b u
    → Trimming (xs ++ (x ∷ [])) T w W (a || b) u
trimming_next xs x {T} {w} {U} {a} {v} {W} {b} {u} g t = record { trims = next }
  where
    next : (P : Problem) → Known P w T → ((y : ℕ) → In y (xs ++ (x ∷ [])) → y < P.strings) → Trims P (xs ++ (x ∷ [])) T w W (a || b) u
    next P k h = record {
      below = below_trans q.below p.below;
      same = λ c r n. q.same c r (λ y m. n y (Memᴰ.append_right xs m)) ∙ p.same c r (λ y m. n y (Memᴰ.append_left (x ∷ []) m));
      known = q.known;
      kept = λ y e. q.kept y (p.kept y e);
      all = λ y m. ⊎_elim (λ i. q.kept y (p.all y i)) (λ i. q.all y i) (Memᴰ.append_cases xs m);
      none = λ e. let f = or_false a b e in q.none f.1 ∙ p.none f.0;
      some = λ e same. let z = between q.below p.below same in ⊎_elim (λ l. p.some l z) (λ r. q.some r (same ∙ sym z)) (or_true a b e);
    }
      where
        p : Trims P xs T w U a v
        p = g.trims P k (λ y m. h y (Memᴰ.append_left (x ∷ []) m))

        q : Trims P (x ∷ []) U v W b u
        q = t.trims P (known-after k p) (λ y m. h y (Memᴰ.append_right xs m))

pub trimming_turn : (T : List ℕ) (w : ℕ) (xs : List ℕ) (j : ℕ) → j < length xs → {U : List ℕ} {a : Bool} {v : ℕ} {W : List ℕ} {b : Bool} {u : ℕ} {c : Bool}
    → Trimming (take j xs) T w U a v → Trimming (get_or xs j 0 ∷ []) U v W b u → c ≡ (a || b) → Trimming (take (j + 1) xs) T w W c u
trimming_turn T w xs j h {U} {a} {v} {W} {b} {u} {c} g t e = subst (λ (d : Bool). Trimming (take (j + 1) xs) T w W d u) (sym e)
    (subst (λ (ys : List ℕ). Trimming ys T w W (a || b) u) (sym (take_next xs j h)) (trimming_next (take j xs) (get_or xs j 0) g t))
