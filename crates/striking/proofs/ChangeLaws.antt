-- The step of a constraint once its strings are trimmed: whether it struck anything, where a choice is left and where none is. Assumes nothing.
use Rattle.std.specs.Prelude.{Some, None}
use mathlib.Core.Path.{◌≡◌, refl, sym, ap, subst, ◌∙◌}
use mathlib.Core.Logic.{◌≢◌, ⊎_elim}
use mathlib.Core.Bool.{Bool, true, false, ◌||◌, false≢true}
use mathlib.Core.List.Memᴰ
use mathlib.Core.List.{List, map}
use Prim.Native.Nat.{ℕ, zero, suc, ◌+◌, ◌*◌, ◌<◌}
use native.Mathlib.Omega.{arith}
use Rattle.model.specs.Words.{word}
use Rattle.model.specs.Domains.{Variable, str}
use Rattle.model.specs.Constraints.{Problem, Constraint, always, variables}
use Rattle.model.specs.Support.{narrowed}
use Rattle.laws.specs.Inclusion.{In, Below}
use Rattle.laws.proofs.ListLaws.{or_true, or_false, in_get_or}
use Rattle.laws.proofs.SupportLaws.{narrowed-length, narrowed-below, narrowed-again}
use Rattle.shortcuts.specs.Waiting.{Unchanged}
use Rattle.shortcuts.proofs.LocalLaws.{Ranged, narrowed_local, apart-unchanged}
use Rattle.shortcuts.proofs.RunningLaws.{trimmed-step}
use Rattle.inplace.specs.declared.Changed.{Changed}
use Rattle.inplace.specs.InPlace.{flag}
use Rattle.records.specs.declared.names.Names.{Names}
use Rattle.steps.specs.Step.{cleared, Narrows}
use Rattle.steps.specs.Names.{texts, numbers, Naming, Blanked}
use Rattle.steps.proofs.ClearLaws.{no-choice, cleared-length, cleared-touched, cleared-other, is-cleared}
use Rattle.steps.proofs.NamingLaws.{named-text, text-named}
use Rattle.steps.proofs.BlankLaws.{blanked_cleared}
use Rattle.steps.proofs.TrimmedLaws.{no_length, empty-string}
use Rattle.striking.specs.Strikes.{Strikes, TrimmedIn}
use Rattle.striking.specs.Named.{Known, Trims, Trimming, TrimmedOf, firsts, Holds}
use Rattle.striking.proofs.TrimmingLaws.{strikes_where, between, known-after}

-- a string without a length: nothing is written, and no choice is left
pub narrows-none : (P : Problem) (c : Constraint) (T : List ℕ) (x : ℕ) → In (str x) (variables c) → word T (64 * x) ≡ 0 → Narrows P c T T None
narrows-none P c T x m z = record {
  size = refl;
  others = λ k u. refl;
  table = λ q. absurd (false≢true q);
  tidy = λ q. absurd (false≢true q);
  unchanged = λ q. absurd (false≢true q);
  changed = λ q. absurd (false≢true q);
  none = λ q. no-choice P c T (no_length P c T x m z);
}

module _ {P : Problem} {c : Constraint} {m : Names} {w : ℕ} {T : List ℕ} (rg : Ranged P c) (naming : Naming P.strings c m) (k : Known P w T) {T₁ : List ℕ} {a : Bool} {v : ℕ}
    (t : Trimming (texts m) T w T₁ a v) where
  trims : Trims P (texts m) T w T₁ a v
  trims = t.trims P k (λ x i. rg (str x) (named-text naming i))

  trimmed-known : Known P v T₁
  trimmed-known = known-after k trims

  pub trimmed-below : Below T₁ T
  trimmed-below = trims.below

  pub trimmed-of : TrimmedOf P c T₁
  trimmed-of x i = trims.known x (rg (str x) i) (trims.all x (text-named naming i))

  -- what is struck then is struck by the whole step
  module _ {W : List ℕ} {b : Bool} (is : W ≡ narrowed P c T₁) (none : b ≡ false → W ≡ T₁) (some : b ≡ true → W ≢ T₁) where
    strikes_after : {d : Bool} → d ≡ (a || b) → Strikes P c T W d × TrimmedIn P v W
    strikes_after {d} e = (
      subst (Strikes P c T W) (sym e) (strikes_where P c T W (a || b) k.words (is ∙ trims.same c rg (λ x i. named-text naming i))
          (λ q. let f = or_false a b q in none f.1 ∙ trims.none f.0)
          (λ q same. let z = between below trims.below same in ⊎_elim (λ l. trims.some l z) (λ r. some r (same ∙ sym z)) (or_true a b q))),
      λ x h q. subst (λ (U : List ℕ). narrowed P (always x) U ≡ U) (sym is) (trimmed-step P c rg T₁ trimmed-known.long x h (trims.known x h q)),
    )
      where
        below : Below W T₁
        below = subst (λ (U : List ℕ). Below U T₁) (sym is) (narrowed-below P c T₁)

  -- ---- a choice is left: the flags say it

  module _ {U : List ℕ} {n : Changed} (s : Narrows P c T₁ U (Some n)) where
    module _ {p q : Bool} (e : p ≡ (n.x || n.y)) (f : q ≡ (p || n.z)) where
      flags : q ≡ false → (i : ℕ) → flag i (Some n) ≡ false
      flags z i = let g = or_false p n.z (sym f ∙ z) in let h = or_false n.x n.y (sym e ∙ g.0) in at i h.0 h.1 g.1
        where
          at : (i : ℕ) → n.x ≡ false → n.y ≡ false → n.z ≡ false → flag i (Some n) ≡ false
          at zero x y z = x
          at (suc zero) x y z = y
          at (suc (suc zero)) x y z = z
          at (suc (suc (suc i))) x y z = refl

      unflagged : q ≡ false → U ≡ T₁
      unflagged z = s.table refl ∙ narrowed_local P c rg (narrowed P c T₁) T₁ (narrowed-length P c T₁)
          (λ i u. sym (apart-unchanged P c c T₁ (λ x l r. same x l) i u)) (narrowed-again P c T₁ trimmed-known.long rg)
        where
          same : (x : Variable) → In x (variables c) → Unchanged P T₁ (narrowed P c T₁) x
          same x l = let g = in_get_or (variables c) (str 0) l in
              subst (λ (S : List ℕ). Unchanged P T₁ S x) (s.table refl) (s.unchanged refl g.0 x g.1 g.2 (flags z g.0))

      flagged : q ≡ true → U ≢ T₁
      flagged z = ⊎_elim (λ r. ⊎_elim (λ x. s.changed refl 0 x) (λ y. s.changed refl 1 y) (or_true n.x n.y (sym e ∙ r))) (λ u. s.changed refl 2 u) (or_true p n.z (sym f ∙ z))

      pub strikes_left : {d : Bool} → d ≡ (a || q) → Strikes P c T U d × TrimmedIn P v U
      strikes_left g = strikes_after (s.table refl) unflagged flagged g

  -- ---- none is left: all that is named was struck, which was something just where anything was there

  module _ {U : List ℕ} (s : Narrows P c T₁ U None) where
    module _ {held : Bool} (h : Holds (firsts (texts m) (numbers m)) T₁ held) {W : List ℕ} (b : Blanked (texts m) (numbers m) U W) where
      is-clear : W ≡ cleared P c U
      is-clear = blanked_cleared P c m U W rg naming b

      -- a table in which nothing was there
      nothing : held ≡ false → Blanked (texts m) (numbers m) T₁ T₁
      nothing q = record {
        size = refl;
        rows = λ x i j l. empty-string P T₁ x trimmed-known.long (rg (str x) (named-text naming i)) (trimmed-of x (named-text naming i))
            (h.none q (64 * x) (Memᴰ.append_left (numbers m) (Memᴰ.map (λ (y : ℕ). 64 * y) i))) j l;
        words = λ i l. h.none q i (Memᴰ.append_right (map (λ (y : ℕ). 64 * y) (texts m)) l);
        others = λ i f g. refl;
      }

      same-clear : cleared P c T₁ ≡ cleared P c U
      same-clear = is-cleared P c U (cleared P c T₁) (cleared-length P c T₁ ∙ sym s.size)
          (λ i l u. cleared-touched P c T₁ i (subst (λ (z : ℕ). i < z) s.size l) u)
          (λ i l u. cleared-other P c T₁ i (subst (λ (z : ℕ). i < z) s.size l) u ∙ sym (s.others i u))

      unheld : held ≡ false → W ≡ T₁
      unheld q = is-clear ∙ sym same-clear ∙ sym (blanked_cleared P c m T₁ T₁ rg naming (nothing q))

      gone : (i : ℕ) → In i (firsts (texts m) (numbers m)) → word W i ≡ 0
      gone i l = ⊎_elim
          (λ g.
          let u = Memᴰ.of_map (λ (y : ℕ). 64 * y) (texts m) g in
          let r : 64 * u.0 + 0 ≡ 64 * u.0 = omega arith in
          ap (word W) (sym u.2) ∙ ap (word W) (sym r) ∙ b.rows u.0 u.1 0 (omega arith))
          (λ g. b.words i g)
          (Memᴰ.append_cases (map (λ (y : ℕ). 64 * y) (texts m)) l)

      held-struck : held ≡ true → W ≢ T₁
      held-struck q e = let o = h.one q in o.2 (ap (λ (S : List ℕ). word S o.0) (sym e) ∙ gone o.0 o.1)

      pub strikes_dead : {d : Bool} → d ≡ (a || held) → Strikes P c T W d × TrimmedIn P v W
      strikes_dead g = strikes_after (is-clear ∙ s.none refl) unheld held-struck g
