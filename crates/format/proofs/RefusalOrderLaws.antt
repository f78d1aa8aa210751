-- Laws of the order of the refusals: what each test of the parts decides, and the number that a file is refused with. Assumes nothing.
use mathlib.Core.Path.{◌≡◌, refl, sym, ap, ◌∙◌}
use mathlib.Core.Bool.{Bool, true, false, cond, not, true≢false, false≢true}
use mathlib.Core.List.{List, map}
use mathlib.Core.Option.{Option, none, some}
use Prim.Native.Nat.{ℕ, ◌+◌, ◌*◌, ◌<◌}
use native.Mathlib.Omega.{arith}
use Rattle.model.specs.Lists.{any, collect}
use Rattle.model.specs.Constraints.{Automaton, Constraint, variables}
use Rattle.model.specs.Replies.{Reply, refused, answered, require, obtain, and_then}
use Rattle.model.specs.Layout.{Parts, little, layout}
use Rattle.model.specs.Reading.{pieces, automata_in, decode, repeats, symbols_below, problem_of}
use Rattle.laws.proofs.ReplyLaws.{refused≢answered}
use Rattle.automata.specs.Walk.{present}
use Rattle.records.specs.Records.{repeated_in, refusal_in, refusal_of}
use Rattle.format.specs.Accepting.{number_of, accepted}

-- ---- refusals 5 to 8

-- what passes one test is left to those behind it
past-obtain : {A B : Type 0} (o : Option A) (n : ℕ) (f : A → Reply B) (m : ℕ) → present o ≡ true → ((a : A) → number_of (f a) ≡ m) → number_of (obtain o n f) ≡ m
unfolding present obtain
past-obtain none n f m h g = absurd (false≢true h)
past-obtain (some a) n f m h g = g a

stop-obtain : {A B : Type 0} (o : Option A) (n : ℕ) (f : A → Reply B) → present o ≡ false → number_of (obtain o n f) ≡ n
unfolding present obtain number_of
stop-obtain none n f h = refl
stop-obtain (some a) n f h = absurd (true≢false h)

past-require : {A : Type 0} (b : Bool) (n : ℕ) (r : Reply A) (m : ℕ) → b ≡ true → number_of r ≡ m → number_of (require b n r) ≡ m
unfolding require
past-require true n r m h g = g
past-require false n r m h g = absurd (false≢true h)

stop-require : {A : Type 0} (b : Bool) (n : ℕ) (r : Reply A) → b ≡ false → number_of (require b n r) ≡ n
unfolding require number_of
stop-require true n r h = absurd (true≢false h)
stop-require false n r h = refl

-- refusal 8 of constraints that passed refusal 7
last-number : {A : Type 0} (a : A) (b : Bool) → number_of (require (not b) 8 (answered a)) ≡ cond b 8 0
unfolding require number_of
last-number a true = refl
last-number a false = refl

records-number : {A : Type 0} (f : List Constraint → A) (o : Option (List Constraint))
    → number_of (obtain o 7 (λ cs. require (not (any (λ c. repeats (variables c)) cs)) 8 (answered (f cs)))) ≡ refusal_in o
unfolding obtain number_of refusal_in repeated_in
records-number f none = refl
records-number f (some cs) = last-number (f cs) (any (λ c. repeats (variables c)) cs)

module _ (p : Parts) where
  -- the file's table
  abbrev pub table_of : List ℕ
  table_of = map little (pieces (64 * p.strings + p.numbers) 8 p.table_bytes)

  abbrev automata_of : Option (List Automaton)
  automata_of = automata_in p.symbols p.automata p.automata_bytes

  pub number-automata : present automata_of ≡ false → number_of (problem_of p) ≡ 5
  unfolding problem_of
  number-automata h = stop-obtain automata_of 5 _ h

  pub number-table : present automata_of ≡ true → symbols_below p.symbols p.strings table_of ≡ false → number_of (problem_of p) ≡ 6
  unfolding problem_of
  number-table h l = past-obtain automata_of 5 _ 6 h (λ As. stop-require _ 6 _ l)

  pub number-records : present automata_of ≡ true → symbols_below p.symbols p.strings table_of ≡ true
      → number_of (problem_of p) ≡ refusal_of p.strings p.numbers p.automata (pieces p.constraints 4 p.constraint_bytes)
  unfolding problem_of refusal_of
  number-records h l =
      past-obtain automata_of 5 _ _ h
      (λ As. past-require _ 6 _ _ l (records-number _ (collect (decode p.strings p.numbers p.automata) (pieces p.constraints 4 p.constraint_bytes))))

-- ---- the number of a whole file

-- if this is a refusal, its number is not 0
abbrev Positive : {A : Type 0} → Reply A → Type 0
Positive r = (n : ℕ) → r ≡ refused n → 0 < n

passed : {A : Type 0} (a : A) → Positive (answered a)
passed a n e = absurd (refused≢answered (sym e))

stopped : {A : Type 0} (m : ℕ) → 0 < m → Positive {A = A} (refused m)
stopped m h n e = let q : m ≡ n = cc in omega arith

past-test : {A : Type 0} (m : ℕ) → 0 < m → (b : Bool) (r : Reply A) → Positive r → Positive (require b m r)
unfolding require
past-test m h true r g = g
past-test m h false r g = stopped m h

past-none : {A B : Type 0} (m : ℕ) → 0 < m → (o : Option A) (f : A → Reply B) → ((a : A) → Positive (f a)) → Positive (obtain o m f)
unfolding obtain
past-none m h none f g = stopped m h
past-none m h (some a) f g = g a

-- problem_of numbers its refusals from 5 on
problem_of-number : (p : Parts) → Positive (problem_of p)
unfolding problem_of
problem_of-number p = past-none 5 (omega arith) _ _ (λ As. past-test 6 (omega arith) _ _ (past-none 7 (omega arith) _ _ (λ cs. past-test 8 (omega arith) _ _ (passed _))))

pub accepted-early : (file : List ℕ) (n : ℕ) → refused n ≡ layout file → refused n ≡ accepted file
unfolding accepted and_then
accepted-early file n e = ap (λ l. and_then l (λ p. and_then (problem_of p) (λ a. answered p))) e

pub accepted-refused : (file : List ℕ) (p : Parts) (n : ℕ) → answered p ≡ layout file → n ≡ number_of (problem_of p) → 0 < n → refused n ≡ accepted file
unfolding accepted and_then number_of
accepted-refused file p n e h l = go (problem_of p) h ∙ ap (λ l. and_then l (λ p. and_then (problem_of p) (λ a. answered p))) e
  where
    go : {A : Type 0} (r : Reply A) → n ≡ number_of r → refused n ≡ and_then r (λ a. answered p)
    go (refused m) h = ap refused h
    go (answered a) h = absurd (omega arith)

pub accepted-laid : (file : List ℕ) (p : Parts) → answered p ≡ layout file → 0 ≡ number_of (problem_of p) → answered p ≡ accepted file
unfolding accepted and_then number_of
accepted-laid file p e h = go (problem_of p) (problem_of-number p) h ∙ ap (λ l. and_then l (λ p. and_then (problem_of p) (λ a. answered p))) e
  where
    go : {A : Type 0} (r : Reply A) → Positive r → 0 ≡ number_of r → answered p ≡ and_then r (λ a. answered p)
    go (refused m) g h = let l = g m refl in absurd (omega arith)
    go (answered a) g h = refl
