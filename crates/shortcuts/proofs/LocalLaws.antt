-- A step looks at the words of its own variables and at no others: where they are as in a table on which it strikes nothing, it strikes nothing.
-- So in a table on which no step strikes, with one word set anew, only the steps that touch the word's variable can strike. Assumes nothing.
use mathlib.Core.Path.{◌≡◌, refl, sym, ap, subst, ◌∙◌}
use mathlib.Core.Logic.{◌≢◌}
use mathlib.Core.Bool.{Bool, true, false, false≢true}
use mathlib.Core.List.{List}
use Prim.Native.Nat.{ℕ, ◌+◌, ◌*◌, ◌<◌}
use native.Mathlib.Omega.{arith}
use lib.Dec.{eqb, ltb}
use lib.ListN.{length, set, get_or-eq_default}
use lib.Seq.{get_or-set_other}
use borrow.Author.Tests.{ltb-true, ltb-false, eqb-true, eqb-false}
use Rattle.model.specs.Words.{bit, word}
use Rattle.model.specs.Domains.{Variable, str, num, values_of, owner}
use Rattle.model.specs.Constraints.{Choice, Problem, Constraint, variables}
use Rattle.model.specs.Solutions.{InRange}
use Rattle.model.specs.Support.{touches, narrowed}
use Rattle.laws.specs.Inclusion.{In, Within}
use Rattle.laws.proofs.WordLaws.{of-bits, in_bits}
use Rattle.laws.proofs.TableLaws.{below_of, below_antisym}
use Rattle.laws.proofs.DomainLaws.{InDomain, text-within, text_transfer}
use Rattle.laws.proofs.SupportLaws.{Supporting, touched, touched-text, touched-value, stays, stays-only, narrowed-length, narrowed-other, narrowed-below}
use Rattle.shortcuts.specs.Waiting.{Unchanged, Apart}

-- the step names variables of the problem
abbrev pub Ranged : Problem → Constraint → Type 0
Ranged P c = (v : Variable) → In v (variables c) → InRange P v

module _ (P : Problem) (c : Constraint) (rg : Ranged P c) where
  -- a choice that supports the step in T does so in U, where T's words of these variables are within U's
  pub supporting_local : (T U : List ℕ) → ((i : ℕ) → touches P c i ≡ true → Within (word T i) (word U i)) → (α : Choice) → Supporting P c T α → Supporting P c U α
  unfolding values_of
  supporting_local T U h α s = record { in_domains = λ v m. there v m (s.in_domains v m); meeting = s.meeting }
    where
      there : (v : Variable) → In v (variables c) → InDomain P.strings T α v → InDomain P.strings U α v
      there (str x) m d =
          let hx : x < P.strings = rg (str x) m in
          text_transfer T U x (α.text x) d (λ j l b q. h (64 * x + j) (touched-text P c x j hx l m) b (text-within T x (α.text x) d j l b q))
      there (num n) m d =
          let u = of-bits (word T (64 * P.strings + n)) d in
          in_bits (word U (64 * P.strings + n)) (α.value n) (h (64 * P.strings + n) (touched-value P c n m) (α.value n) u.0) u.1

  -- what a step leaves of its own words depends on them alone
  pub narrowed-same : (T U : List ℕ) → length T ≡ length U → Apart P c T U → (i : ℕ) → i < length T → touches P c i ≡ true → Within (word (narrowed P c T) i) (word (narrowed P c U) i)
  narrowed-same T U e a i l t b q =
      let u = stays-only P c T i b l t q in
      stays P c U i b (subst (λ (n : ℕ). i < n) e l) t u.0
      (supporting_local T U (λ j k d r. ap (λ (w : ℕ). bit w d) (sym (a j k)) ∙ r) u.0 u.1) u.2

  -- a step that strikes nothing in T strikes nothing in U
  pub narrowed_local : (T U : List ℕ) → length T ≡ length U → Apart P c T U → narrowed P c T ≡ T → narrowed P c U ≡ U
  narrowed_local T U e a f = below_antisym (narrowed-below P c U) (below_of U (narrowed P c U) (sym (narrowed-length P c U)) (λ i l. go i l (touches P c i) refl))
    where
      go : (i : ℕ) → i < length U → (t : Bool) → touches P c i ≡ t → Within (word U i) (word (narrowed P c U) i)
      go i l true t = λ b q.
          narrowed-same T U e a i (subst (λ (n : ℕ). i < n) (sym e) l) t b
          (ap (λ (W : List ℕ). bit (word W i) b) f ∙ ap (λ (w : ℕ). bit w b) (a i t) ∙ q)
      go i l false t = λ b q. ap (λ (w : ℕ). bit w b) (narrowed-other P c U i l t) ∙ q

-- ---- what a step that strikes changes for the others

-- c's step changes no word of d's variables where it changes none of those that both name
pub apart-unchanged : (P : Problem) (c d : Constraint) (T : List ℕ) → ((v : Variable) → In v (variables c) → In v (variables d) → Unchanged P T (narrowed P c T) v) → Apart P d T (narrowed P c T)
apart-unchanged P c d T h i t = go (touches P c i) refl
  where
    outside : (s : Bool) → ltb i (length T) ≡ s → touches P c i ≡ false → word T i ≡ word (narrowed P c T) i
    outside true l u = sym (narrowed-other P c T i (ltb-true i (length T) l) u)
    outside false l u =
        let k = ltb-false i (length T) l in
        get_or-eq_default T 0 k ∙ sym (get_or-eq_default (narrowed P c T) 0 (omega (arith, narrowed-length P c T, k)))

    go : (s : Bool) → touches P c i ≡ s → word T i ≡ word (narrowed P c T) i
    go true u = h (owner P.strings i) (touched P c i u) (touched P d i t) i refl
    go false u = outside (ltb i (length T)) refl u

-- ---- the start of a child

-- a step that strikes nothing in S, and does not touch word k, strikes nothing in S with word k set
pub child-rests : (P : Problem) (c : Constraint) → Ranged P c → (S : List ℕ) (k a : ℕ) → length (set S k a) ≡ length S → touches P c k ≡ false → narrowed P c S ≡ S → narrowed P c (set S k a) ≡ set S k a
child-rests P c rg S k a e n f = narrowed_local P c rg S (set S k a) (sym e) (λ i t. sym (get_or-set_other S k i a 0 (other i t (eqb i k) refl))) f
  where
    other : (i : ℕ) → touches P c i ≡ true → (s : Bool) → eqb i k ≡ s → i ≢ k
    other i t true p = absurd (false≢true (sym n ∙ ap (touches P c) (sym (eqb-true i k p)) ∙ t))
    other i t false p = eqb-false i k p
