-- A constraint on some variables of a table narrows them as the same constraint, under other names, narrows a table that has the same domains for them. So a
-- step may be worked out on a relation's rows and numbers alone, and its result be put back. Assumes nothing.
use mathlib.Core.Path.{◌≡◌, refl, sym, ap, subst, ◌∙◌}
use mathlib.Core.Bool.{false}
use mathlib.Core.List.Memᴰ
use mathlib.Core.List.{List, [], ◌∷◌, map}
use Prim.Native.Nat.{ℕ, ◌+◌, ◌*◌, ◌^◌, ◌<◌}
use native.Mathlib.Omega.{arith}
use lib.ListN.{length}
use Rattle.model.specs.Words.{bits, word}
use Rattle.model.specs.Domains.{Variable, str, num, row, strings, strings_of, values_of}
use Rattle.model.specs.Constraints.{Choice, Problem, Constraint, width, variables, meets}
use Rattle.model.specs.Solutions.{InRange, text_bit}
use Rattle.model.specs.Support.{touches, narrowed}
use Rattle.laws.specs.Inclusion.{In}
use Rattle.laws.specs.Supported.{Supports}
use Rattle.laws.proofs.DomainLaws.{InDomain, Agree, str≢num}
use Rattle.laws.proofs.SupportLaws.{Supporting, meets-agree}
use Rattle.laws.proofs.Supports.{moved-support, text-support, value-support}
use Rattle.laws.proofs.PlaceLaws.{narrowed-rows}

-- where the strings and the numbers of the small table stand in the large one, and back
pub record Places : Type 0 where
  pub text-to : ℕ → ℕ
  pub value-to : ℕ → ℕ
  pub text-from : ℕ → ℕ
  pub value-from : ℕ → ℕ

unfoldable pub renamed : Places → Variable → Variable
renamed ρ (str x) = str (ρ.text-to x)
renamed ρ (num n) = num (ρ.value-to n)

-- a choice for the large table, read as one for the small, and the other way
abbrev pub pulled : Places → Choice → Choice
pulled ρ α = record { text = λ x. α.text (ρ.text-to x); value = λ n. α.value (ρ.value-to n) }

abbrev pub pushed : Places → Choice → Choice
pushed ρ γ = record { text = λ y. γ.text (ρ.text-from y); value = λ m. γ.value (ρ.value-from m) }

-- the constraint c on T is the constraint d on U, under these names
pub record Renamed (P : Problem) (c : Constraint) (T : List ℕ) (Q : Problem) (d : Constraint) (U : List ℕ) (ρ : Places) : Type 0 where
  pub names : variables c ≡ map (renamed ρ) (variables d)
  pub in_small : (v : Variable) → In v (variables d) → InRange Q v
  pub rows : (x : ℕ) → In (str x) (variables d) → row T (ρ.text-to x) ≡ row U x
  pub numbers : (n : ℕ) → In (num n) (variables d) → word T (64 * P.strings + ρ.value-to n) ≡ word U (64 * Q.strings + n)
  pub text-back : (x : ℕ) → In (str x) (variables d) → ρ.text-from (ρ.text-to x) ≡ x
  pub value-back : (n : ℕ) → In (num n) (variables d) → ρ.value-from (ρ.value-to n) ≡ n
  pub meeting : (α : Choice) → meets P c α ≡ meets Q d (pulled ρ α)

module _ (P : Problem) (c : Constraint) (T : List ℕ) (Q : Problem) (d : Constraint) (U : List ℕ) (ρ : Places) (r : Renamed P c T Q d U ρ) where
  of-named : (v : Variable) → In v (variables c) → (u : Variable) × In u (variables d) × (renamed ρ u ≡ v)
  of-named v m = Memᴰ.of_map (renamed ρ) (variables d) (subst (λ (l : List Variable). In v l) r.names m)

  is-named : (u : Variable) → In u (variables d) → In (renamed ρ u) (variables c)
  is-named u m = subst (λ (l : List Variable). In (renamed ρ u) l) (sym r.names) (Memᴰ.map (renamed ρ) m)

  -- a choice that supports c on T, pulled, supports d on U
  pub pull_supporting : (α : Choice) → Supporting P c T α → Supporting Q d U (pulled ρ α)
  unfolding renamed values_of
  pull_supporting α s = record { in_domains = domain; meeting = sym (r.meeting α) ∙ s.meeting }
    where
      domain : (u : Variable) → In u (variables d) → InDomain Q.strings U (pulled ρ α) u
      domain (str x) m = subst (λ (z : List ℕ). In (α.text (ρ.text-to x)) (strings z)) (r.rows x m) (s.in_domains (str (ρ.text-to x)) (is-named (str x) m))
      domain (num n) m = subst (λ (w : ℕ). In (α.value (ρ.value-to n)) (bits w)) (r.numbers n m) (s.in_domains (num (ρ.value-to n)) (is-named (num n) m))

  -- and one that supports d on U, pushed, supports c on T
  back-agrees : (γ : Choice) → Agree (variables d) (pulled ρ (pushed ρ γ)) γ
  back-agrees γ (str x) m = ap γ.text (r.text-back x m)
  back-agrees γ (num n) m = ap γ.value (r.value-back n m)

  pub push_supporting : (γ : Choice) → Supporting Q d U γ → Supporting P c T (pushed ρ γ)
  unfolding renamed values_of
  push_supporting γ s = record {
    in_domains = λ v m. let t = of-named v m in subst (InDomain P.strings T (pushed ρ γ)) t.2 (domain t.0 t.1);
    meeting = r.meeting (pushed ρ γ) ∙ meets-agree Q d (pulled ρ (pushed ρ γ)) γ (back-agrees γ) ∙ s.meeting;
  }
    where
      domain : (u : Variable) → In u (variables d) → InDomain P.strings T (pushed ρ γ) (renamed ρ u)
      domain (str x) m =
          subst (λ (z : List ℕ). In (γ.text (ρ.text-from (ρ.text-to x))) (strings z)) (sym (r.rows x m))
          (subst (λ (w : List ℕ). In w (strings_of U x)) (sym (ap γ.text (r.text-back x m))) (s.in_domains (str x) m))
      domain (num n) m =
          subst (λ (w : ℕ). In (γ.value (ρ.value-from (ρ.value-to n))) (bits w)) (sym (r.numbers n m))
          (subst (λ (v : ℕ). In v (values_of Q.strings U n)) (sym (ap γ.value (r.value-back n m))) (s.in_domains (num n) m))

  -- so a table that takes its rows and numbers from the narrowed small table, and else is T, is the narrowed large one
  pub narrowed-renamed : (W : List ℕ) → length T ≡ width P → length U ≡ width Q → length W ≡ length T
      → ((x : ℕ) → In (str x) (variables d) → row W (ρ.text-to x) ≡ row (narrowed Q d U) x)
      → ((n : ℕ) → In (num n) (variables d) → word W (64 * P.strings + ρ.value-to n) ≡ word (narrowed Q d U) (64 * Q.strings + n))
      → ((i : ℕ) → i < length T → touches P c i ≡ false → word W i ≡ word T i) → W ≡ narrowed P c T
  unfolding renamed
  narrowed-renamed W lT lU lW texts values others = narrowed-rows P c T W lT lW text value others
    where
      text : (y : ℕ) → y < P.strings → In (str y) (variables c) → Supports (Supporting P c T) (λ α. text_bit (α.text y)) 64 (row W y)
      text y h m = let t = of-named (str y) m in at t.0 t.1 t.2
        where
          at : (u : Variable) → In u (variables d) → renamed ρ u ≡ str y → Supports (Supporting P c T) (λ α. text_bit (α.text y)) 64 (row W y)
          at (num n) k e = absurd (str≢num (sym e))
          at (str x) k e =
              let q : ρ.text-to x ≡ y = cc in
              let hx : x < Q.strings = r.in_small (str x) k in
              let big = moved-support (Supporting Q d U) (Supporting P c T) (λ γ. text_bit (γ.text x)) (λ α. text_bit (α.text (ρ.text-to x))) 64 (row (narrowed Q d U) x)
              (λ γ s. (pushed ρ γ, push_supporting γ s, λ i l. ap (λ (w : List ℕ). text_bit w i) (sym (ap γ.text (r.text-back x k)))))
              (λ α s. (pulled ρ α, pull_supporting α s, λ i l. refl))
              (text-support Q d U x hx (omega arith) k) in
              subst (λ (z : ℕ). Supports (Supporting P c T) (λ α. text_bit (α.text z)) 64 (row W z)) q (subst (Supports (Supporting P c T) (λ α. text_bit (α.text (ρ.text-to x))) 64) (sym (texts x k)) big)

      value : (m : ℕ) → m < P.numbers → In (num m) (variables c) → Supports (Supporting P c T) (λ α i. 2 ^ (α.value m)) 1 (word W (64 * P.strings + m) ∷ [])
      value m h k = let t = of-named (num m) k in at t.0 t.1 t.2
        where
          at : (u : Variable) → In u (variables d) → renamed ρ u ≡ num m → Supports (Supporting P c T) (λ α i. 2 ^ (α.value m)) 1 (word W (64 * P.strings + m) ∷ [])
          at (str x) k e = absurd (str≢num e)
          at (num n) k e =
              let q : ρ.value-to n ≡ m = cc in
              let hn : n < Q.numbers = r.in_small (num n) k in
              let big = moved-support (Supporting Q d U) (Supporting P c T) (λ γ i. 2 ^ (γ.value n)) (λ α i. 2 ^ (α.value (ρ.value-to n))) 1 (word (narrowed Q d U) (64 * Q.strings + n) ∷ [])
              (λ γ s. (pushed ρ γ, push_supporting γ s, λ i l. ap (λ (v : ℕ). 2 ^ v) (sym (ap γ.value (r.value-back n k)))))
              (λ α s. (pulled ρ α, pull_supporting α s, λ i l. refl))
              (value-support Q d U n (omega arith) k) in
              subst (λ (z : ℕ). Supports (Supporting P c T) (λ α i. 2 ^ (α.value z)) 1 (word W (64 * P.strings + z) ∷ [])) q
              (subst (λ (w : ℕ). Supports (Supporting P c T) (λ α i. 2 ^ (α.value (ρ.value-to n))) 1 (w ∷ [])) (sym (values n k)) big)
