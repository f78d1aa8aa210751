-- Laws of solutions: a solution's own table lies below every table that it fits, and lets no step strike. Assumes nothing.
use mathlib.Core.Path.{◌≡◌, refl, sym, ap, subst, ◌∙◌}
use mathlib.Core.Logic.{⊎_elim}
use mathlib.Core.Bool.{Bool, true, false}
use mathlib.Core.List.Memᴰ
use mathlib.Core.List.{List, map}
use Prim.Native.Nat.{ℕ, ◌+◌, ◌*◌, ◌<◌}
use native.Mathlib.Omega.{arith}
use lib.ListN.{length, length-map}
use Rattle.model.specs.Lists.{from, upto}
use Rattle.model.specs.Words.{bit, word}
use Rattle.model.specs.Domains.{Variable, str, num, values_of, owner}
use Rattle.model.specs.Constraints.{Choice, Problem, Constraint, always, width, meets, variables}
use Rattle.model.specs.Solutions.{Fits, Solution, used, table_of, InRange, WellFormed}
use Rattle.model.specs.Support.{touches, narrowed}
use Rattle.model.specs.Rounds.{steps}
use Rattle.laws.specs.Inclusion.{In, Within, Below}
use Rattle.laws.specs.Lent.{Stable}
use Rattle.laws.proofs.ListLaws.{of-upto, from-length, from-get_or}
use Rattle.laws.proofs.WordLaws.{pow_self, of-bits, in_bits}
use Rattle.laws.proofs.TableLaws.{below_of, below_antisym}
use Rattle.laws.proofs.DomainLaws.{owner-text, owner-value, used-text, used-value, by_word, InDomain, domain-within, strings_of-sub, values_of-sub, text_transfer}
use Rattle.laws.proofs.SupportLaws.{Supporting, stays, narrowed-length, narrowed-other, narrowed-below}

pub table_of-length : (P : Problem) (α : Choice) → length (table_of P α) ≡ width P
unfolding table_of upto
table_of-length P α = length-map (from 0 (width P)) (used P.strings α) ∙ from-length 0 (width P)

pub table_of-word : (P : Problem) (α : Choice) (i : ℕ) → i < width P → word (table_of P α) i ≡ used P.strings α i
unfolding table_of upto
table_of-word P α i h = let q : 0 + i ≡ i = omega arith in from-get_or (used P.strings α) 0 (width P) i 0 h ∙ ap (used P.strings α) q

-- a choice that fits a table fits a larger one
pub fits_below : (P : Problem) (α : Choice) {T U : List ℕ} → Below T U → Fits P T α → Fits P U α
fits_below P α {T} {U} p f = record {
  texts_in = λ x h. strings_of-sub T U p x (α.text x) (f.texts_in x h);
  values_in = λ n h. values_of-sub P.strings T U p n (α.value n) (f.values_in n h);
}

pub solution-below : (P : Problem) (α : Choice) {T U : List ℕ} → Below T U → Solution P T α → Solution P U α
solution-below P α p s = record { fits = fits_below P α p s.fits; met = s.met }

module _ (P : Problem) (α : Choice) where
  -- a choice that fits takes the problem's variables from their domains
  pub fits-domain : (T : List ℕ) → Fits P T α → (v : Variable) → InRange P v → InDomain P.strings T α v
  fits-domain T f (str x) h = f.texts_in x h
  fits-domain T f (num n) h = f.values_in n h

  pub owner_range : (i : ℕ) → i < width P → InRange P (owner P.strings i)
  owner_range = by_word P.strings (λ i. i < width P → InRange P (owner P.strings i))
      (λ x j h k l. subst (InRange P) (sym (owner-text P.strings x j h k)) h)
      (λ n l. subst (InRange P) (sym (owner-value P.strings n)) (omega arith))

  pub own_below : (T : List ℕ) → length T ≡ width P → Fits P T α → Below (table_of P α) T
  own_below T e f = below_of (table_of P α) T (table_of-length P α ∙ sym e) (λ i h.
      let k = subst (λ (n : ℕ). i < n) (table_of-length P α) h in
      subst (λ (w : ℕ). Within w (word T i)) (sym (table_of-word P α i k)) (domain-within P.strings T α i (fits-domain T f (owner P.strings i) (owner_range i k))))

  pub own-fits : (T : List ℕ) → Fits P T α → Fits P (table_of P α) α
  unfolding values_of
  own-fits T f = record {
    texts_in = λ x h. text_transfer T (table_of P α) x (α.text x) (f.texts_in x h) (λ j k b q.
        ap (λ (w : ℕ). bit w b) (table_of-word P α (64 * x + j) (omega arith) ∙ used-text P.strings α x j h k) ∙ q);
    values_in = λ n h. in_bits _ (α.value n)
        (ap (λ (w : ℕ). bit w (α.value n)) (table_of-word P α (64 * P.strings + n) (omega arith) ∙ used-value P.strings α n) ∙ pow_self (α.value n))
        (of-bits _ (f.values_in n h)).1;
  }

  -- a constraint that the choice meets strikes nothing of the choice's own table
  pub own_fixed : (T : List ℕ) → Fits P T α → (c : Constraint) → ((v : Variable) → In v (variables c) → InRange P v) → meets P c α ≡ true → narrowed P c (table_of P α) ≡ table_of P α
  own_fixed T f c r e =
      below_antisym (narrowed-below P c own) (below_of own (narrowed P c own) (sym (narrowed-length P c own)) (λ i h. go i h (touches P c i) refl))
    where
      own : List ℕ
      own = table_of P α

      supporting : Supporting P c own α
      supporting = record { in_domains = λ v m. fits-domain own (own-fits T f) v (r v m); meeting = e }

      go : (i : ℕ) → i < length own → (t : Bool) → touches P c i ≡ t → Within (word own i) (word (narrowed P c own) i)
      go i h true t =
          let k = subst (λ (n : ℕ). i < n) (table_of-length P α) h in
          λ b q. stays P c own i b h t α supporting (ap (λ (w : ℕ). bit w b) (sym (table_of-word P α i k)) ∙ q)
      go i h false t = λ b q. ap (λ (w : ℕ). bit w b) (narrowed-other P c own i h t) ∙ q

  trim_range : (x : ℕ) → x < P.strings → (v : Variable) → In v (variables (always x)) → InRange P v
  unfolding variables
  trim_range x h v (Memᴰ.tail x5) = elim x5 [ ]
  trim_range x h v (Memᴰ.head e) = subst (InRange P) (sym e) h

  trim-meets : (x : ℕ) → meets P (always x) α ≡ true
  unfolding meets
  trim-meets x = refl

  -- no step strikes anything of a solution's own table
  pub own-stable : (T : List ℕ) → WellFormed P → Solution P T α → Stable P (table_of P α)
  unfolding steps
  own-stable T wf s c m = ⊎_elim (λ k. trim (Memᴰ.of_map _ _ k)) (λ k. own_fixed T s.fits c (wf c k) (s.met c k)) (Memᴰ.append_cases (map always (upto P.strings)) m)
    where
      trim : (x : ℕ) × In x (upto P.strings) × (always x ≡ c) → narrowed P c (table_of P α) ≡ table_of P α
      trim t = ap (λ (d : Constraint). narrowed P d (table_of P α)) (sym t.2) ∙ own_fixed T s.fits (always t.0) (λ v k. trim_range t.0 (of-upto _ t.1) v k) (trim-meets t.0)
