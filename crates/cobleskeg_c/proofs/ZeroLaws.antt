-- 0 is returned just where the operation is accepted: no refusal has that number. Assumes nothing.
use mathlib.Core.Path.{◌≡◌, refl, subst}
use mathlib.Core.Bool.{Bool, true, false}
use mathlib.Core.List.{List}
use mathlib.Core.Option.{Option, none, some}
use Prim.Native.Nat.{ℕ}
use lib.Dec.{T as Holds, ltb}
use Rattle.model.specs.Replies.{Reply, refused, answered, require, obtain, and_then}
use Rattle.model.specs.Layout.{layout}
use Rattle.model.specs.Reading.{Reading, problem_of, reading}
use Rattle.model.specs.Operations.{read, require_length, unpack, on_table, step, settle, search}
use Rattle.model.specs.StepIndex.{require_index_length, index}
use Rattle.model.specs.Queue.{settle_by_index}
use Rattle.model.specs.Pattern.{Pattern}
use Rattle.model.specs.PatternText.{Parsed, bad, parsed}
use Rattle.model.specs.Compile.{when_parsed, compiled_bytes, compile}
use Rattle.cobleskeg_c.specs.Numbers.{refusal}

-- a refusal has a number above 0
pub data Numbered {A : Type 0} : Reply A → Type 0 where
  by_number : {n : ℕ} → Holds (ltb 0 n) → Numbered (refused n)
  by_answer : {a : A} → Numbered (answered a)

module _ {A : Type 0} where
  pub require-numbered : (b : Bool) (n : ℕ) (r : Reply A) → Holds (ltb 0 n) → Numbered r → Numbered (require b n r)
  unfolding require
  require-numbered true n r h k = k
  require-numbered false n r h k = by_number h

  pub zero-accepts : (r : Reply A) → Numbered r → refusal r ≡ 0 → (a : A) × (r ≡ answered a)
  unfolding refusal
  zero-accepts (refused n) (by_number h) e = absurd (subst (λ (m : ℕ). Holds (ltb 0 m)) e h)
  zero-accepts (answered a) k e = (a, refl)

module _ {A B : Type 0} where
  pub obtain-numbered : (o : Option A) (n : ℕ) (f : A → Reply B) → Holds (ltb 0 n) → ((a : A) → Numbered (f a)) → Numbered (obtain o n f)
  unfolding obtain
  obtain-numbered none n f h k = by_number h
  obtain-numbered (some a) n f h k = k a

  pub then_numbered : (r : Reply A) (f : A → Reply B) → Numbered r → ((a : A) → Numbered (f a)) → Numbered (and_then r f)
  unfolding and_then
  then_numbered (refused n) f (by_number h) k = by_number h
  then_numbered (answered a) f h k = k a

pub reading-numbered : (file : List ℕ) → Numbered (reading file)
unfolding reading layout problem_of
reading-numbered file =
    then_numbered _ _
    (require-numbered _ 1 _ tt (require-numbered _ 2 _ tt (require-numbered _ 3 _ tt (require-numbered _ 4 _ tt by_answer))))
    (λ p. obtain-numbered _ 5 _ tt (λ As. require-numbered _ 6 _ tt (obtain-numbered _ 7 _ tt (λ cs. require-numbered _ 8 _ tt by_answer))))

module _ (r : Reading) (known : Numbered r) (T : List ℕ) where
  pub read-numbered : Numbered (read r)
  unfolding read
  read-numbered = then_numbered r _ known (λ a. by_answer)

  pub unpack-numbered : Numbered (unpack r T)
  unfolding unpack require_length
  unpack-numbered = then_numbered r _ known (λ a. require-numbered _ 9 _ tt by_answer)

  pub step-numbered : (j : ℕ) → Numbered (step r j T)
  unfolding step on_table require_length
  step-numbered j = then_numbered r _ known (λ a. require-numbered _ 9 _ tt (require-numbered _ 10 _ tt (require-numbered _ 11 _ tt by_answer)))

  pub settle-numbered : Numbered (settle r T)
  unfolding settle on_table require_length
  settle-numbered = then_numbered r _ known (λ a. require-numbered _ 9 _ tt (require-numbered _ 10 _ tt by_answer))

  pub index-numbered : Numbered (index r T)
  unfolding index require_index_length
  index-numbered = then_numbered r _ known (λ a. require-numbered _ 18 _ tt by_answer)

  pub settle-by-index-numbered : (I : List ℕ) → Numbered (settle_by_index r I T)
  unfolding settle_by_index on_table require_length require_index_length
  settle-by-index-numbered I =
      then_numbered r _ known
      (λ a. require-numbered _ 9 _ tt (require-numbered _ 10 _ tt (require-numbered _ 18 _ tt (require-numbered _ 19 _ tt by_answer))))

  pub search-numbered : (budget : ℕ) (room : List ℕ) → Numbered (search r budget room T)
  unfolding search
  search-numbered budget room = then_numbered r _ known (λ a. require-numbered _ 12 _ tt (require-numbered _ 13 _ tt by_answer))

parsed-numbered : {A : Type 0} (r : Parsed) (f : Pattern → Reply A) → ((e : Pattern) → Numbered (f e)) → Numbered (when_parsed r f)
unfolding when_parsed
parsed-numbered bad f h = by_number tt
parsed-numbered (parsed e p) f h = h e

pub compile-numbered : (k : ℕ) (s B : List ℕ) → Numbered (compile k s B)
unfolding compile compiled_bytes
compile-numbered k s B =
    then_numbered _ _
    (require-numbered _ 14 _ tt (parsed-numbered _ _ (λ e. require-numbered _ 15 _ tt (require-numbered _ 16 _ tt (require-numbered _ 17 _ tt by_answer)))))
    (λ bs. by_answer)
