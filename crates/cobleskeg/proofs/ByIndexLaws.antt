-- What Index and Settle by index answer. Assumes nothing.
use mathlib.Core.Path.{◌≡◌, sym, ap, ◌∙◌}
use mathlib.Core.Logic.{◌≢◌}
use mathlib.Core.Bool.{Bool, true, false}
use mathlib.Core.List.{List}
use Prim.Native.Nat.{ℕ, ◌+◌, ◌*◌}
use native.Mathlib.Omega.{arith}
use lib.Dec.{eqb}
use lib.ListN.{length}
use borrow.Author.Tests.{eq-eqb, ne_eqb}
use Rattle.std.specs.Prelude.{Result, Ok}
use Rattle.model.specs.Lists.{same}
use Rattle.model.specs.Words.{Words}
use Rattle.model.specs.Constraints as model
use Rattle.model.specs.Rounds.{every_value, settling, settled}
use Rattle.model.specs.Replies.{Reply, refused, answered, require, and_then}
use Rattle.model.specs.Reading.{reading}
use Rattle.model.specs.StepIndex.{index_of, require_index_length, index}
use Rattle.model.specs.Queue.{queueing, Queued, settle_by_index}
use Rattle.laws.specs.Lent.{lendable, unlendable}
use Rattle.laws.proofs.ListLaws.{same_true}
use Rattle.laws.proofs.CallLaws.{lendable-length, settle-by-index-lendable, settle-by-index-other}
use Rattle.laws.proofs.Demand.{settle-by-index-refused}
use Rattle.shortcuts.proofs.QueueSettledLaws.{queueing-settled}
use Rattle.format.specs.declared.problem.Problem.{Problem}
use Rattle.format.specs.Accepting.{content_of}
use Rattle.format.specs.Problems.{the_problem}
use Rattle.refusals.specs.declared.Refusal.{Refusal}
use Rattle.refusals.specs.Numbers.{number}
use Rattle.cobleskeg.specs.declared.Settled.{Settled}
use Rattle.cobleskeg.proofs.AnswerLaws.{Accepts, counts, sound}
use Rattle.cobleskeg.specs.Claims.{SettlesAlike}
use Rattle.cobleskeg.proofs.LentLaws.{settles}

-- ---- of a file that is refused

module _ (file : List ℕ) (n : ℕ) (e : reading file ≡ refused n) where
  pub index-early : (I : List ℕ) → index (reading file) I ≡ refused n
  unfolding index and_then
  index-early I = ap (λ r. index r I) e

  pub by-index-early : (I T : List ℕ) → settle_by_index (reading file) I T ≡ refused n
  by-index-early I T = ap (λ r. settle_by_index r I T) e ∙ settle-by-index-refused n I T

-- ---- of one that is accepted

module _ {file : List ℕ} {p : Problem} (a : Accepts file p) where
  abbrev P : model.Problem
  P = the_problem p

  index-words : 2 * (P.strings + P.numbers) ≡ 2 * (p.parts.s + p.parts.t)
  index-words = let c = counts p in omega (arith, c.strings, c.numbers)

  -- ---- Index

  module _ (I : List ℕ) where
    on-index : index (reading file) I ≡ index (answered (content_of p.file.now p.parts)) I
    on-index = ap (λ r. index r I) a.reads

    pub index_eighteen : length I ≢ 2 * (p.parts.s + p.parts.t) → index (reading file) I ≡ refused 18
    unfolding index and_then require_index_length require
    index_eighteen h = on-index ∙ rw (ne_eqb (length I) _ (λ e. h (e ∙ index-words)))

    pub index-whole : length I ≡ 2 * (p.parts.s + p.parts.t) → (J : List ℕ) → J ≡ index_of P → answered J ≡ index (reading file) I
    unfolding index and_then require_index_length require
    index-whole h J e = sym (on-index ∙ rw (eq-eqb (length I) _ (h ∙ sym index-words)) (ap answered (sym e)))

  -- ---- Settle by index

  module _ (I T : List ℕ) where
    on-settle : settle_by_index (reading file) I T ≡ settle_by_index (answered (content_of p.file.now p.parts)) I T
    on-settle = ap (λ r. settle_by_index r I T) a.reads

    pub by-index-unlent : (e : Refusal) → (lendable P T ≡ false) × (number e ≡ unlendable P T) → settle_by_index (reading file) I T ≡ refused (number e)
    by-index-unlent e u = on-settle ∙ settle-by-index-other (content_of p.file.now p.parts) I T u.0 ∙ ap (λ (k : ℕ). refused k) (sym u.1)

    module _ (fits : lendable P T ≡ true) where
      -- what is answered, by the length of the index and by its words
      abbrev rest : Bool → Bool → Reply Queued
      rest long same = require long 18 (require same 19 (answered (record {
        steps = (queueing P T).steps;
        every_value = every_value P (queueing P T).table;
        table = (queueing P T).table;
      })))

      lent-settles : settle_by_index (reading file) I T ≡ rest (eqb (length I) (2 * (P.strings + P.numbers))) (same I (index_of P))
      lent-settles = on-settle ∙ settle-by-index-lendable (content_of p.file.now p.parts) I T fits

      pub by-index_eighteen : length I ≢ 2 * (p.parts.s + p.parts.t) → settle_by_index (reading file) I T ≡ refused 18
      unfolding require
      by-index_eighteen h = lent-settles ∙ ap (λ (t : Bool). rest t (same I (index_of P))) (ne_eqb (length I) _ (λ e. h (e ∙ index-words)))

      module _ (h : length I ≡ 2 * (p.parts.s + p.parts.t)) (is : Bool) (looked : is ≡ same I (index_of P)) where
        long : settle_by_index (reading file) I T ≡ rest true is
        long = lent-settles ∙ ap (λ (t : Bool). rest t (same I (index_of P))) (eq-eqb (length I) _ (h ∙ sym index-words)) ∙ ap (λ (t : Bool). rest true t) (sym looked)

        pub by-index_nineteen : is ≡ false → settle_by_index (reading file) I T ≡ refused 19
        unfolding require
        by-index_nineteen e = long ∙ ap (λ (t : Bool). rest true t) e

        pub index_same : is ≡ true → I ≡ index_of P
        index_same e = same_true I (index_of P) (sym looked ∙ e)

        -- the table that the rounds end in
        pub rounds_end : Words T → (U : List ℕ) → U ≡ (queueing P T).table → U ≡ settled P T
        rounds_end w U d = d ∙ queueing-settled P (sound p).well_formed T w (lendable-length P T fits)

        pub by-index-done : is ≡ true → (U : List ℕ) (k : ℕ) (v : Bool) → k ≡ (queueing P T).steps → U ≡ (queueing P T).table → U ≡ settled P T
            → v ≡ every_value P (settled P T) → answered (record { steps = k; every_value = v; table = U }) ≡ settle_by_index (reading file) I T
        unfolding require
        by-index-done so U k v ek eu es ev = let e = long ∙ ap (λ (t : Bool). rest true t) so in cc e

      -- the table, and what is answered on the values, are those of Settle
      pub by-index-alike : (U : List ℕ) (k : ℕ) (v : Bool) → U ≡ settled P T → v ≡ every_value P (settled P T)
          → SettlesAlike file T (Ok (record { count = k; every_value = v })) U
      by-index-alike U k v eu ev q w =
          (record { rounds = (settling P T).rounds; every_value = every_value P (settled P T); table = settled P T }, settles a T fits, eu, value_of q w ∙ ev)
        where
          value_of : (s : Settled) → ◌≡◌ {A = Result Settled Refusal} (Ok (record { count = k; every_value = v })) (Ok s) → s.every_value ≡ v
          value_of s w = cc
