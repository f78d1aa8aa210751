-- A string of a table trimmed; and narrowing after a row that the constraint names is trimmed is narrowing: so a step on any table may tidy its rows first.
-- Assumes nothing.
use mathlib.Core.Path.{◌≡◌, refl, sym, ap, subst, ◌∙◌}
use mathlib.Core.Bool.{Bool, true, false, false≢true}
use mathlib.Core.List.Memᴰ
use mathlib.Core.List.{List, [], ◌∷◌, append-nil}
use mathlib.Core.Logic.{⊎_elim}
use Prim.Native.Nat.{ℕ, ◌+◌, ◌*◌, ◌<◌, ◌≤◌}
use native.Mathlib.Omega.{arith}
use lib.ListN.{length}
use Rattle.model.specs.Lists.{from, upto}
use Rattle.model.specs.Words.{bit, bits, word}
use Rattle.model.specs.Domains.{Variable, str, num, row, values_of}
use Rattle.model.specs.Constraints.{Problem, Constraint, Choice, always, width, variables, meets}
use Rattle.model.specs.Support.{touches, narrowed}
use Rattle.model.specs.Solutions.{used, InRange}
use Rattle.model.specs.Rounds.{variables_of}
use Rattle.rows.specs.Rows.{alone, trimmed, stored}
use Rattle.rows.proofs.TrimLaws.{trimmed-length}
use Rattle.rows.proofs.StoreLaws.{stored-length, stored-before, stored-after, row-stored}
use Rattle.rows.proofs.NamedLaws.{named_kind, one_below, none_below, one-distinct}
use Rattle.laws.specs.Inclusion.{In}
use Rattle.laws.proofs.DomainLaws.{row-length, InDomain, text_transfer, text-within, used-text, owner-value, str≢num}
use Rattle.laws.proofs.SupportLaws.{Supporting, supporting-below, touched, touched_in, stays, stays-only, narrowed-length, narrowed-other, narrowed-below, is-narrowed}
use Rattle.inplace.specs.InTable.{Only}
use Rattle.inplace.proofs.Tables.{only_out}
use Rattle.inplace.proofs.Narrowing.{in_place}

-- a string trimmed alone
pub trim-placed : (P : Problem) (x : ℕ) → x < P.strings → (T : List ℕ) → length T ≡ width P → stored T x (trimmed (row T x)) ≡ narrowed P (always x) T
unfolding variables meets trimmed variables_of alone upto from
trim-placed P x h T ln =
    let r : List ℕ = trimmed (row T x) in
    let f : 64 * x + 64 ≤ length T = omega arith in
    let lr : length r ≡ 64 = trimmed-length (row T x) ∙ row-length T x f in
    let only : Only T x (stored T x r) = record { size = stored-length T x r f lr; before = stored-before T x r f lr; after = stored-after T x r f lr } in
    in_place P (always x) (always 0) [] (x ∷ []) []
    (named_kind P (always x) (always 0) [] (x ∷ []) [] refl refl (λ α. refl) (one_below P.strings h) (none_below P.numbers) (one-distinct x) tt)
    T (stored T x r) ln only.size
    (append-nil (row (stored T x r) x) ∙ row-stored T x r f lr ∙ ap (λ (t : List ℕ). narrowed (alone 1 0 []) (always 0) t) (sym (append-nil (row T x))))
    (λ i o n. only_out T x (stored T x r) only i (o x (Memᴰ.head refl)))

module _ (P : Problem) (c : Constraint) (named : (v : Variable) → In v (variables c) → InRange P v) (x : ℕ) (mem : In (str x) (variables c)) (T : List ℕ) (ln : length T ≡ width P) where
  abbrev T' : List ℕ
  T' = narrowed P (always x) T

  l' : length T' ≡ length T
  l' = narrowed-length P (always x) T

  -- the constraint that always holds names x alone
  alone-named : (v : Variable) → In v (variables (always x)) → v ≡ str x
  unfolding variables
  alone-named v m = ⊎_elim (λ e. e) (λ k. elim k [ ]) (Memᴰ.cases_cons m)

  supporting-always : (α : Choice) → Supporting P c T α → Supporting P (always x) T α
  unfolding meets
  supporting-always α s = record { in_domains = λ v m. subst (InDomain P.strings T α) (sym (alone-named v m)) (s.in_domains (str x) mem); meeting = refl }

  kept-text : (α : Choice) → Supporting P c T α → (y j b : ℕ) → y < P.strings → In (str y) (variables c) → j < 64 → (t : Bool) → touches P (always x) (64 * y + j) ≡ t
      → bit (used P.strings α (64 * y + j)) b ≡ true → bit (word T (64 * y + j)) b ≡ true → bit (word T' (64 * y + j)) b ≡ true
  kept-text α s y j b h m k true t q w = stays P (always x) T (64 * y + j) b (omega arith) t α (supporting-always α s) q
  kept-text α s y j b h m k false t q w = ap (λ (v : ℕ). bit v b) (narrowed-other P (always x) T (64 * y + j) (omega arith) t) ∙ w

  kept-value : (n : ℕ) → n < P.numbers → (t : Bool) → touches P (always x) (64 * P.strings + n) ≡ t → word T' (64 * P.strings + n) ≡ word T (64 * P.strings + n)
  kept-value n h true t = absurd (str≢num (sym (alone-named _ (touched P (always x) (64 * P.strings + n) t)) ∙ owner-value P.strings n))
  kept-value n h false t = narrowed-other P (always x) T (64 * P.strings + n) (omega arith) t

  -- a choice that supports the constraint still does
  pub supporting_tidied : (α : Choice) → Supporting P c T α → Supporting P c T' α
  unfolding values_of
  supporting_tidied α s = record { in_domains = λ v m. at v m (named v m) (s.in_domains v m); meeting = s.meeting }
    where
      at : (v : Variable) → In v (variables c) → InRange P v → InDomain P.strings T α v → InDomain P.strings T' α v
      at (str y) m h i = text_transfer T T' y (α.text y) i (λ j k b q.
          kept-text α s y j b h m k (touches P (always x) (64 * y + j)) refl (ap (λ (w : ℕ). bit w b) (used-text P.strings α y j h k) ∙ q) (text-within T y (α.text y) i j k b q))
      at (num n) m h i = subst (λ (w : ℕ). In (α.value n) (bits w)) (sym (kept-value n h (touches P (always x) (64 * P.strings + n)) refl)) i

  -- a word that the constraint does not touch is not of row x
  others : (i : ℕ) → i < length T → touches P c i ≡ false → (t : Bool) → touches P (always x) i ≡ t → word T' i ≡ word T i
  others i h f true t = absurd (false≢true (sym f ∙ touched_in P c i (subst (λ (v : Variable). In v (variables c)) (sym (alone-named _ (touched P (always x) i t))) mem)))
  others i h f false t = narrowed-other P (always x) T i h t

  pub tidied_narrowed : narrowed P c T' ≡ narrowed P c T
  tidied_narrowed = is-narrowed P c T (narrowed P c T') (narrowed-length P c T' ∙ l')
      (λ i b h t q. let u = stays-only P c T' i b (subst (λ (n : ℕ). i < n) (sym l') h) t q in (u.0, supporting-below P c (narrowed-below P (always x) T) u.0 u.1, u.2))
      (λ i b h t α s q. stays P c T' i b (subst (λ (n : ℕ). i < n) (sym l') h) t α (supporting_tidied α s) q)
      (λ i h f. narrowed-other P c T' i (subst (λ (n : ℕ). i < n) (sym l') h) f ∙ others i h f (touches P (always x) i) refl)
