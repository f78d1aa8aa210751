-- Laws of looking through the length words and the number words of a table on which no step strikes. Assumes nothing.
use mathlib.Core.Path.{◌≡◌, refl, sym, ap, subst, ◌∙◌}
use mathlib.Core.Bool.{Bool, true, false, false≢true}
use mathlib.Core.List.{List}
use Prim.Native.Nat.{ℕ, ◌+◌, ◌-◌, ◌*◌, ◌≤◌, ◌<◌}
use native.Mathlib.Omega.{arith}
use lib.ListN.{length, get_or}
use Rattle.std.specs.Prelude.{MatchBool}
use Rattle.std.proofs.lemmas.List.FromFn.{length-range_with_len, get_or-range_with_len}
use Rattle.std.specs.List.{AllWithin, HoldsAt, range_with_len}
use Rattle.model.specs.Words.{bit, bits, word, Words}
use Rattle.model.specs.Constraints.{Problem, width}
use Rattle.model.specs.Solutions.{WellFormed}
use Rattle.model.specs.Rounds.{every_value}
use Rattle.laws.specs.Lent.{Stable}
use Rattle.laws.proofs.WordLaws.{zero_bit}
use Rattle.laws.proofs.NodeLaws.{words_every_value, every_value-lengths, every_value-numbers}
use Rattle.rows.proofs.TrimLaws.{some-bit}

-- the words of T at f a to f (b - 1), as `all` looked through them: where it answered true none of them is 0, else one is
abbrev pub Looked : List ℕ → (ℕ → ℕ) → ℕ → ℕ → Bool → Type 0
Looked T f a b r = MatchBool r ((x : ℕ) → a ≤ x → x < b → 0 < word T (f x)) ((x : ℕ) × (a ≤ x) × (x < b) × (word T (f x) ≡ 0))

pub looked : (T : List ℕ) (f : ℕ → ℕ) (a b : ℕ) (r : Bool)
    → MatchBool r (AllWithin (λ x. 0 < word T (f x)) (range_with_len a (b - a)) 0 (length (range_with_len a (b - a))))
    ((k : ℕ) × (k < length (range_with_len a (b - a))) × HoldsAt (λ x. word T (f x) ≡ 0) (range_with_len a (b - a)) k)
    → Looked T f a b r
looked T f a b true h = λ x l m.
    let n = length-range_with_len a (b - a) in
    let k : a + (x - a) ≡ x = omega arith in
    let at : get_or (range_with_len a (b - a)) (x - a) 0 ≡ x = get_or-range_with_len a (b - a) (x - a) 0 (omega arith) ∙ k in
    subst (λ (i : ℕ). 0 < word T (f i)) at (h (x - a) 0 (omega arith) (omega arith))
looked T f a b false h =
    let n = length-range_with_len a (b - a) in
    let at = get_or-range_with_len a (b - a) h.0 0 (omega arith) in
    (a + h.0, omega arith, omega arith, subst (λ (i : ℕ). word T (f i) ≡ 0) at (h.2 0))

module _ (T : List ℕ) (bd : Words T) (s : ℕ) (P : Problem) (wf : WellFormed P) (es : s ≡ P.strings) (ln : length T ≡ width P) (st : Stable P T) where
  has-bit : (i : ℕ) → 0 < word T i → (b : ℕ) × (bit (word T i) b ≡ true)
  has-bit i l = (get_or (bits (word T i)) 0 0, some-bit (word T i) (bd i) l)

  not_every_value : (i : ℕ) → word T i ≡ 0 → (every_value P T ≡ true → (b : ℕ) × (bit (word T i) b ≡ true)) → false ≡ every_value P T
  not_every_value i e f = go (every_value P T) refl
    where
      go : (t : Bool) → every_value P T ≡ t → false ≡ t
      go false q = refl
      go true q = let h = f q in absurd (false≢true (sym (zero_bit h.0) ∙ ap (λ (w : ℕ). bit w h.0) (sym e) ∙ h.1))

  -- a length word is 0
  pub no_length : (q : Bool) → q ≡ false → Looked T (λ x. 64 * x) 0 s q → q ≡ every_value P T
  no_length true e h = absurd (false≢true (sym e))
  no_length false e h = not_every_value (64 * h.0) h.3 (λ a. every_value-lengths P wf T bd ln st a h.0 (omega arith))

  -- no length word is 0: the number words say it
  pub by_numbers : (q r : Bool) → q ≡ true → Looked T (λ x. 64 * x) 0 s q → Looked T (λ i. i) (64 * s) (length T) r → r ≡ every_value P T
  by_numbers false r e f g = absurd (false≢true e)
  by_numbers true true e f g =
      sym (words_every_value P wf T bd ln st (λ x l. has-bit (64 * x) (f x (omega arith) (omega arith)))
      (λ n l. has-bit (64 * P.strings + n) (g (64 * P.strings + n) (omega arith) (omega arith))))
  by_numbers true false e f g =
      let n : ℕ = g.0 - 64 * P.strings in
      let q : 64 * P.strings + n ≡ g.0 = omega arith in
      not_every_value g.0 g.3 (λ a. subst (λ (k : ℕ). (b : ℕ) × (bit (word T k) b ≡ true)) q (every_value-numbers P wf T bd ln st a n (omega arith)))
