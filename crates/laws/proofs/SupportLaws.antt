-- Laws of one narrowing step, for any constraint: the rule of support, that it only strikes, that from less it leaves less, and that doing it again
-- changes nothing. Assumes nothing.
use mathlib.Core.Path.{◌≡◌, refl, sym, ap, subst, ◌∙◌}
use mathlib.Core.Bool.{Bool, true, false, cond}
use mathlib.Core.List.Memᴰ
use mathlib.Core.List.{List, [], ◌∷◌, map}
use Prim.Native.Nat.{ℕ, ◌+◌, ◌*◌, ◌<◌}
use native.Mathlib.Omega.{arith}
use lib.ListN.{length}
use Rattle.model.specs.Words.{bit, union, word}
use Rattle.model.specs.Domains.{Variable, str, num, values_of, owner}
use Rattle.model.specs.Constraints.{Choice, Problem, Constraint, always, eq, neq, rev, cat, sub, len, regular, width, variables, meets}
use Rattle.model.specs.Solutions.{InRange, used}
use Rattle.model.specs.Support.{supports, touches, narrowed}
use Rattle.laws.specs.Inclusion.{In, Within, Below}
use Rattle.laws.proofs.ListLaws.{of-select, in_select, of-any, in_any, length-map_from, map_from-get_or}
use Rattle.laws.proofs.WordLaws.{bit-union, of-bits, in_bits, pow_self}
use Rattle.laws.proofs.TableLaws.{below_of, below_antisym}
use Rattle.laws.proofs.DomainLaws.{owner-text, owner-value, used-text, used-value, used-agree, same-variable, variable_same, InDomain, domain-within, Agree, choices-sound, choices-complete, strings_of-sub, values_of-sub, text_transfer}

-- whether a choice meets a constraint depends only on the constraint's variables
pub meets-agree : (P : Problem) (c : Constraint) (γ α : Choice) → Agree (variables c) γ α → meets P c γ ≡ meets P c α
unfolding meets variables
meets-agree P (always x) γ α h = refl
meets-agree P (eq x y) γ α h = rw (h (str x) (Memᴰ.head refl), h (str y) (Memᴰ.tail (Memᴰ.head refl)))
meets-agree P (neq x y) γ α h = rw (h (str x) (Memᴰ.head refl), h (str y) (Memᴰ.tail (Memᴰ.head refl)))
meets-agree P (rev x y) γ α h = rw (h (str x) (Memᴰ.head refl), h (str y) (Memᴰ.tail (Memᴰ.head refl)))
meets-agree P (cat x y z) γ α h = rw (h (str x) (Memᴰ.head refl), h (str y) (Memᴰ.tail (Memᴰ.head refl)), h (str z) (Memᴰ.tail (Memᴰ.tail (Memᴰ.head refl))))
meets-agree P (sub x y n) γ α h = rw (h (str x) (Memᴰ.head refl), h (str y) (Memᴰ.tail (Memᴰ.head refl)), h (num n) (Memᴰ.tail (Memᴰ.tail (Memᴰ.head refl))))
meets-agree P (len x n) γ α h = rw (h (str x) (Memᴰ.head refl), h (num n) (Memᴰ.tail (Memᴰ.head refl)))
meets-agree P (regular x d) γ α h = rw (h (str x) (Memᴰ.head refl))

-- the choice takes the constraint's variables from their domains in T, and meets it
pub record Supporting (P : Problem) (c : Constraint) (T : List ℕ) (α : Choice) : Type 0 where
  pub in_domains : (v : Variable) → In v (variables c) → InDomain P.strings T α v
  pub meeting : meets P c α ≡ true

module _ (P : Problem) (c : Constraint) where
  -- ---- the rule of support

  pub touched : (i : ℕ) → touches P c i ≡ true → In (owner P.strings i) (variables c)
  unfolding touches
  touched i t = let u = of-any _ _ t in subst (λ (v : Variable). In v (variables c)) (sym (same-variable _ _ u.2)) u.1

  pub touched_in : (i : ℕ) → In (owner P.strings i) (variables c) → touches P c i ≡ true
  unfolding touches
  touched_in i m = in_any _ m (variable_same (owner P.strings i) (owner P.strings i) refl)

  pub touched-text : (x j : ℕ) → x < P.strings → j < 64 → In (str x) (variables c) → touches P c (64 * x + j) ≡ true
  touched-text x j h k m = touched_in (64 * x + j) (subst (λ (v : Variable). In v (variables c)) (sym (owner-text P.strings x j h k)) m)

  pub touched-value : (n : ℕ) → In (num n) (variables c) → touches P c (64 * P.strings + n) ≡ true
  touched-value n m = touched_in (64 * P.strings + n) (subst (λ (v : Variable). In v (variables c)) (sym (owner-value P.strings n)) m)

  of-supports : (T : List ℕ) (γ : Choice) → In γ (supports P c T) → Supporting P c T γ
  unfolding supports
  of-supports T γ m = let t = of-select _ _ m in record { in_domains = choices-sound P.strings T (variables c) γ t.0; meeting = t.1 }

  in_supports : (T : List ℕ) (α : Choice) → Supporting P c T α → (γ : Choice) × In γ (supports P c T) × Agree (variables c) γ α
  unfolding supports
  in_supports T α s =
      let g = choices-complete P.strings T (variables c) α s.in_domains in
      (g.0, in_select (meets P c) g.1 (meets-agree P c g.0 α g.2 ∙ s.meeting), g.2)

  pub narrowed-length : (T : List ℕ) → length (narrowed P c T) ≡ length T
  unfolding narrowed
  narrowed-length T = length-map_from 0 _ T

  narrowed_word : (T : List ℕ) (i : ℕ) → i < length T → word (narrowed P c T) i
      ≡ cond (touches P c i) (union (map (λ γ. used P.strings γ i) (supports P c T))) (word T i)
  unfolding narrowed
  narrowed_word T i h =
      let q : 0 + i ≡ i = omega arith in
      map_from-get_or 0 _ T i 0 0 h ∙ ap (λ (j : ℕ). cond (touches P c j) (union (map (λ γ. used P.strings γ j) (supports P c T))) (word T i)) q

  -- a bit of a touched word that stays is used by a supporting choice
  pub stays-only : (T : List ℕ) (i b : ℕ) → i < length T → touches P c i ≡ true → bit (word (narrowed P c T) i) b ≡ true
      → (α : Choice) × Supporting P c T α × (bit (used P.strings α i) b ≡ true)
  stays-only T i b h t q =
      let e : word (narrowed P c T) i ≡ union (map (λ γ. used P.strings γ i) (supports P c T)) = rw t at (narrowed_word T i h) in
      let u = of-any (λ w. bit w b) _ (sym (bit-union _ b) ∙ ap (λ (w : ℕ). bit w b) (sym e) ∙ q) in
      let m = Memᴰ.of_map _ _ u.1 in
      (m.0, of-supports T m.0 m.1, ap (λ (w : ℕ). bit w b) m.2 ∙ u.2)

  -- and one that a supporting choice uses stays
  pub stays : (T : List ℕ) (i b : ℕ) → i < length T → touches P c i ≡ true → (α : Choice) → Supporting P c T α
      → bit (used P.strings α i) b ≡ true → bit (word (narrowed P c T) i) b ≡ true
  stays T i b h t α s q =
      let e : word (narrowed P c T) i ≡ union (map (λ γ. used P.strings γ i) (supports P c T)) = rw t at (narrowed_word T i h) in
      let g = in_supports T α s in
      ap (λ (w : ℕ). bit w b) e ∙ bit-union _ b ∙ in_any (λ w. bit w b) (Memᴰ.map (λ δ. used P.strings δ i) g.1)
      (ap (λ (w : ℕ). bit w b) (used-agree P.strings g.0 α i (g.2 _ (touched i t))) ∙ q)

  -- a word that it does not touch stays as it is
  pub narrowed-other : (T : List ℕ) (i : ℕ) → i < length T → touches P c i ≡ false → word (narrowed P c T) i ≡ word T i
  narrowed-other T i h t = rw t at (narrowed_word T i h)

  -- ---- it only strikes, and from less it leaves less

  pub narrowed-below : (T : List ℕ) → Below (narrowed P c T) T
  narrowed-below T = below_of (narrowed P c T) T (narrowed-length T) (λ i h. go i (subst (λ (n : ℕ). i < n) (narrowed-length T) h) (touches P c i) refl)
    where
      go : (i : ℕ) → i < length T → (t : Bool) → touches P c i ≡ t → Within (word (narrowed P c T) i) (word T i)
      go i h true t = λ b q. let u = stays-only T i b h t q in domain-within P.strings T u.0 i (u.1.in_domains _ (touched i t)) b u.2
      go i h false t = λ b q. ap (λ (w : ℕ). bit w b) (sym (narrowed-other T i h t)) ∙ q

  pub supporting-below : {T U : List ℕ} → Below T U → (α : Choice) → Supporting P c T α → Supporting P c U α
  supporting-below {T} {U} p α s = record { in_domains = λ v m. larger v (s.in_domains v m); meeting = s.meeting }
    where
      larger : (v : Variable) → InDomain P.strings T α v → InDomain P.strings U α v
      larger (str x) m = strings_of-sub T U p x (α.text x) m
      larger (num n) m = values_of-sub P.strings T U p n (α.value n) m

  pub narrowed-mono : {T U : List ℕ} → Below T U → Below (narrowed P c T) (narrowed P c U)
  narrowed-mono {T} {U} p =
      below_of (narrowed P c T) (narrowed P c U) (narrowed-length T ∙ p.same_length ∙ sym (narrowed-length U)) (λ i h.
      let k = subst (λ (n : ℕ). i < n) (narrowed-length T) h in
      go i k (subst (λ (n : ℕ). i < n) p.same_length k) (touches P c i) refl)
    where
      go : (i : ℕ) → i < length T → i < length U → (t : Bool) → touches P c i ≡ t → Within (word (narrowed P c T) i) (word (narrowed P c U) i)
      go i h k true t = λ b q. let u = stays-only T i b h t q in stays U i b k t u.0 (supporting-below p u.0 u.1) u.2
      go i h k false t = λ b q. ap (λ (w : ℕ). bit w b) (narrowed-other U i k t) ∙ p.within i b (ap (λ (w : ℕ). bit w b) (sym (narrowed-other T i h t)) ∙ q)

  -- a table that keeps the rule of support is the narrowed one: what code that makes its words is proved by
  pub is-narrowed : (T U : List ℕ) → length U ≡ length T
      → ((i b : ℕ) → i < length T → touches P c i ≡ true → bit (word U i) b ≡ true → (α : Choice) × Supporting P c T α × (bit (used P.strings α i) b ≡ true))
      → ((i b : ℕ) → i < length T → touches P c i ≡ true → (α : Choice) → Supporting P c T α → bit (used P.strings α i) b ≡ true → bit (word U i) b ≡ true)
      → ((i : ℕ) → i < length T → touches P c i ≡ false → word U i ≡ word T i) → U ≡ narrowed P c T
  is-narrowed T U e sound complete other =
      below_antisym (below_of U (narrowed P c T) (e ∙ sym (narrowed-length T)) (λ i h. there i (subst (λ (n : ℕ). i < n) e h) (touches P c i) refl))
      (below_of (narrowed P c T) U (narrowed-length T ∙ sym e) (λ i h. back i (subst (λ (n : ℕ). i < n) (narrowed-length T) h) (touches P c i) refl))
    where
      there : (i : ℕ) → i < length T → (t : Bool) → touches P c i ≡ t → Within (word U i) (word (narrowed P c T) i)
      there i h true t = λ b q. let u = sound i b h t q in stays T i b h t u.0 u.1 u.2
      there i h false t = λ b q. ap (λ (w : ℕ). bit w b) (narrowed-other T i h t ∙ sym (other i h t)) ∙ q

      back : (i : ℕ) → i < length T → (t : Bool) → touches P c i ≡ t → Within (word (narrowed P c T) i) (word U i)
      back i h true t = λ b q. let u = stays-only T i b h t q in complete i b h t u.0 u.1 u.2
      back i h false t = λ b q. ap (λ (w : ℕ). bit w b) (other i h t ∙ sym (narrowed-other T i h t)) ∙ q

-- ---- doing it again changes nothing

module _ (P : Problem) (c : Constraint) (T : List ℕ) (ln : length T ≡ width P) (rg : (v : Variable) → In v (variables c) → InRange P v) where
  -- a choice that supports the step is still there after it
  pub supporting-stays : (α : Choice) → Supporting P c T α → (v : Variable) → In v (variables c) → InDomain P.strings (narrowed P c T) α v
  unfolding values_of
  supporting-stays α s (str x) k =
      let hx : x < P.strings = rg (str x) k in
      text_transfer T (narrowed P c T) x (α.text x) (s.in_domains (str x) k) (λ j h b q.
      stays P c T (64 * x + j) b (omega arith) (touched-text P c x j hx h k) α s (ap (λ (w : ℕ). bit w b) (used-text P.strings α x j hx h) ∙ q))
  supporting-stays α s (num n) k =
      let hn : n < P.numbers = rg (num n) k in
      let u = of-bits _ (s.in_domains (num n) k) in
      in_bits (word (narrowed P c T) (64 * P.strings + n)) (α.value n)
      (stays P c T (64 * P.strings + n) (α.value n) (omega arith) (touched-value P c n k) α s (ap (λ (w : ℕ). bit w (α.value n)) (used-value P.strings α n) ∙ pow_self (α.value n))) u.1

  -- so any constraint on some of these variables, which all those choices meet, strikes nothing
  pub strikes_nothing : (d : Constraint) → ((v : Variable) → In v (variables d) → In v (variables c)) → ((α : Choice) → meets P c α ≡ true → meets P d α ≡ true)
      → narrowed P d (narrowed P c T) ≡ narrowed P c T
  strikes_nothing d fewer weaker =
      let U : List ℕ = narrowed P c T in
      below_antisym (narrowed-below P d U) (below_of U (narrowed P d U) (sym (narrowed-length P d U)) (λ i l. go i l (touches P d i) refl))
    where
      go : (i : ℕ) → i < length (narrowed P c T) → (t : Bool) → touches P d i ≡ t → Within (word (narrowed P c T) i) (word (narrowed P d (narrowed P c T)) i)
      go i l true t = λ b q.
          let l' : i < length T = subst (λ (n : ℕ). i < n) (narrowed-length P c T) l in
          let u = stays-only P c T i b l' (touched_in P c i (fewer _ (touched P d i t))) q in
          stays P d (narrowed P c T) i b l t u.0 (record { in_domains = λ v k. supporting-stays u.0 u.1 v (fewer v k); meeting = weaker u.0 u.1.meeting }) u.2
      go i l false t = λ b q. ap (λ (w : ℕ). bit w b) (narrowed-other P d (narrowed P c T) i l t) ∙ q

  pub narrowed-again : narrowed P c (narrowed P c T) ≡ narrowed P c T
  narrowed-again = strikes_nothing c (λ v k. k) (λ α e. e)

  -- its strings are left trimmed
  pub narrowed-trimmed : (x : ℕ) → In (str x) (variables c) → narrowed P (always x) (narrowed P c T) ≡ narrowed P c T
  unfolding variables meets
  narrowed-trimmed x k = strikes_nothing (always x) (λ v m. of_one v m) (λ α e. refl)
    where
      of_one : (v : Variable) → In v (str x ∷ []) → In v (variables c)
      of_one v (Memᴰ.tail x5) = elim x5 [ ]
      of_one v (Memᴰ.head e) = subst (λ (u : Variable). In u (variables c)) (sym e) k
