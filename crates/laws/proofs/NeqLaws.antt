-- Laws of Neq: the paper's "some difference" is inequality, and beyond what trimming strikes it takes something from one side only when the other side
-- stands for exactly one string, or for none. Assumes nothing.
use mathlib.Core.Path.{◌≡◌, refl, sym, ap, subst, ◌∙◌}
use mathlib.Core.Logic.{◌⊎◌, inl, inr, ◌≢◌}
use mathlib.Core.Bool.{Bool, true, false, cond, not, ◌||◌, false≢true}
use mathlib.Core.List.Memᴰ
use mathlib.Core.List.{List}
use Prim.Native.Nat.{ℕ, ◌+◌, ◌*◌, ◌≤◌, ◌<◌}
use native.Mathlib.Omega.{arith}
use lib.Dec.{eqb}
use lib.ListN.{length, get_or}
use lib.Seq.{ext_get_or}
use borrow.Author.Tests.{eqb-true, eq-eqb, ne_eqb}
use Rattle.model.specs.Lists.{any, upto}
use Rattle.model.specs.Words.{bit, word}
use Rattle.model.specs.Domains.{Variable, str, strings_of}
use Rattle.model.specs.Constraints.{Choice, Problem, Constraint, always, neq, differ, variables, meets}
use Rattle.model.specs.Solutions.{text_bit}
use Rattle.model.specs.Support.{narrowed}
use Rattle.laws.specs.Inclusion.{In}
use Rattle.laws.proofs.ListLaws.{of-any, in_any, in_upto}
use Rattle.laws.proofs.DomainLaws.{InDomain, used-text}
use Rattle.laws.proofs.SupportLaws.{Supporting, stays, stays-only, touched-text}

-- strings that do not differ are the same
pub differ_false : (x y : List ℕ) → differ x y ≡ false → x ≡ y
unfolding differ
differ_false x y = go (eqb (length x) (length y)) refl
  where
    places : any (λ j. not (eqb (get_or x j 0) (get_or y j 0))) (upto (length x)) ≡ false → (j : ℕ) → j < length x → get_or x j 0 ≡ get_or y j 0
    places e j h = at (eqb (get_or x j 0) (get_or y j 0)) refl
      where
        at : (t : Bool) → eqb (get_or x j 0) (get_or y j 0) ≡ t → get_or x j 0 ≡ get_or y j 0
        at true q = eqb-true (get_or x j 0) (get_or y j 0) q
        at false q = absurd (false≢true (sym e ∙ in_any (λ j. not (eqb (get_or x j 0) (get_or y j 0))) (in_upto (length x) j h) (ap not q)))

    go : (t : Bool) → eqb (length x) (length y) ≡ t → (not t || any (λ j. not (eqb (get_or x j 0) (get_or y j 0))) (upto (length x))) ≡ false → x ≡ y
    go true e q = ext_get_or 0 x y (eqb-true (length x) (length y) e) (places q)
    go false e q = absurd (false≢true (sym q))

pub differ_true : (x y : List ℕ) → x ≢ y → differ x y ≡ true
differ_true x y n = go (differ x y) refl
  where
    go : (t : Bool) → differ x y ≡ t → t ≡ true
    go true e = refl
    go false e = absurd (n (differ_false x y e))

pub differ_self : (x : List ℕ) → differ x x ≡ false
unfolding differ
differ_self x = rw (eq-eqb (length x) (length x) refl) (go (any (λ j. not (eqb (get_or x j 0) (get_or x j 0))) (upto (length x))) refl)
  where
    go : (t : Bool) → any (λ j. not (eqb (get_or x j 0) (get_or x j 0))) (upto (length x)) ≡ t → t ≡ false
    go true e =
        let u = of-any (λ j. not (eqb (get_or x j 0) (get_or x j 0))) (upto (length x)) e in
        absurd (false≢true (ap not (sym (eq-eqb (get_or x u.0 0) (get_or x u.0 0) refl)) ∙ u.2))
    go false e = refl

pub differ_sym : (w u : List ℕ) → differ w u ≡ true → differ u w ≡ true
differ_sym w u e = differ_true u w (λ q. false≢true (sym (differ_self w) ∙ ap (differ w) (sym q) ∙ e))

-- w for string x, and v for every other
pair : ℕ → List ℕ → List ℕ → Choice
pair x w v = record { text = λ z. cond (eqb z x) w v; value = λ n. 0 }

module _ (P : Problem) (T : List ℕ) (x y : ℕ) (n : y ≢ x) (hx : x < P.strings) (fx : 64 * x + 64 ≤ length T) where
  -- string x against string y, on either side of the constraint
  abbrev pub Between : Constraint → Type 0
  Between c = (c ≡ neq x y) ⊎ (c ≡ neq y x)

  pair-domain : (w v : List ℕ) → In w (strings_of T x) → In v (strings_of T y) → (u : Variable) → (u ≡ str x) ⊎ (u ≡ str y) → InDomain P.strings T (pair x w v) u
  unfolding pair
  pair-domain w v mw mv u (inl e) =
      let q : cond (eqb x x) w v ≡ w = rw (eq-eqb x x refl) in
      subst (InDomain P.strings T (pair x w v)) (sym e) (subst (λ (l : List ℕ). In l (strings_of T x)) (sym q) mw)
  pair-domain w v mw mv u (inr e) =
      let q : cond (eqb y x) w v ≡ v = rw (ne_eqb y x n) in
      subst (InDomain P.strings T (pair x w v)) (sym e) (subst (λ (l : List ℕ). In l (strings_of T y)) (sym q) mv)

  pair-supporting : (c : Constraint) → Between c → (w v : List ℕ) → In w (strings_of T x) → In v (strings_of T y) → w ≢ v → Supporting P c T (pair x w v)
  unfolding variables meets pair
  pair-supporting c (inl e) w v mw mv d = subst (λ (c : Constraint). Supporting P c T (pair x w v)) (sym e) (record {
    in_domains = λ u m. pair-domain w v mw mv u (elim m [ Memᴰ.head q ↦ inl q | Memᴰ.tail k ↦ elim k [ Memᴰ.head q ↦ inr q | Memᴰ.tail x11 ↦ elim x11 [ ] ] ]);
    meeting = rw (eq-eqb x x refl, ne_eqb y x n) (differ_true w v d);
  })
  pair-supporting c (inr e) w v mw mv d = subst (λ (c : Constraint). Supporting P c T (pair x w v)) (sym e) (record {
    in_domains = λ u m. pair-domain w v mw mv u (elim m [ Memᴰ.head q ↦ inr q | Memᴰ.tail k ↦ elim k [ Memᴰ.head q ↦ inl q | Memᴰ.tail x11 ↦ elim x11 [ ] ] ]);
    meeting = rw (eq-eqb x x refl, ne_eqb y x n) (differ_true v w (λ q. d (sym q)));
  })

  names-x : (c : Constraint) → Between c → In (str x) (variables c)
  unfolding variables
  names-x c (inl e) = subst (λ (c : Constraint). In (str x) (variables c)) (sym e) (Memᴰ.head refl)
  names-x c (inr e) = subst (λ (c : Constraint). In (str x) (variables c)) (sym e) (Memᴰ.tail (Memᴰ.head refl))

  -- where the other side stands for two strings, what trimming leaves of this side stays
  pub neq-trims : (c : Constraint) → Between c → (v₁ v₂ : List ℕ) → In v₁ (strings_of T y) → In v₂ (strings_of T y) → v₁ ≢ v₂
      → (j b : ℕ) → j < 64 → bit (word (narrowed P (always x) T) (64 * x + j)) b ≡ true → bit (word (narrowed P c T) (64 * x + j)) b ≡ true
  unfolding variables pair
  neq-trims c bw v₁ v₂ m₁ m₂ d j b h q =
      let t = stays-only P (always x) T (64 * x + j) b (omega arith) (touched-text P (always x) x j hx h (Memᴰ.head refl)) q in
      let w : List ℕ = t.0.text x in
      let mw : In w (strings_of T x) = t.1.in_domains (str x) (Memᴰ.head refl) in
      go w mw (ap (λ (u : ℕ). bit u b) (sym (used-text P.strings t.0 x j hx h)) ∙ t.2) (differ w v₁) refl
    where
      keeps : (w v : List ℕ) → In w (strings_of T x) → In v (strings_of T y) → w ≢ v → bit (text_bit w j) b ≡ true → bit (word (narrowed P c T) (64 * x + j)) b ≡ true
      keeps w v mw mv ne u =
          let e : cond (eqb x x) w v ≡ w = rw (eq-eqb x x refl) in
          stays P c T (64 * x + j) b (omega arith) (touched-text P c x j hx h (names-x c bw)) (pair x w v) (pair-supporting c bw w v mw mv ne)
          (ap (λ (s : ℕ). bit s b) (used-text P.strings (pair x w v) x j hx h ∙ ap (λ (l : List ℕ). text_bit l j) e) ∙ u)

      go : (w : List ℕ) → In w (strings_of T x) → bit (text_bit w j) b ≡ true → (t : Bool) → differ w v₁ ≡ t → bit (word (narrowed P c T) (64 * x + j)) b ≡ true
      go w mw u true e = keeps w v₁ mw m₁ (λ k. false≢true (sym (differ_self v₁) ∙ ap (λ (l : List ℕ). differ l v₁) (sym k) ∙ e)) u
      go w mw u false e = keeps w v₂ mw m₂ (λ k. d (sym (differ_false w v₁ e) ∙ k)) u
