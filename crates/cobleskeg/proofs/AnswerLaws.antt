-- What reading a file gives, what a call leaves in what was lent to it, and what Read and Unpack answer. Assumes nothing.
use mathlib.Core.Path.{◌≡◌, sym, ap, ap₂, ◌∙◌}
use mathlib.Core.Logic.{◌≢◌}
use mathlib.Core.List.{List, map}
use Prim.Native.Nat.{ℕ, ◌+◌, ◌*◌}
use lib.ListN.{length, take}
use borrow.Author.Tests.{eq-eqb, ne_eqb}
use Rattle.std.specs.Prelude.{Ok, Err}
use Rattle.model.specs.Constraints.{width}
use Rattle.model.specs.Replies.{Reply, refused, answered, require, and_then, leaves}
use Rattle.model.specs.Layout.{little}
use Rattle.model.specs.Reading.{pieces, reading}
use Rattle.model.specs.Operations.{Header, read, require_length, unpack}
use Rattle.laws.proofs.ReadingLaws.{Sound}
use Rattle.refusals.specs.declared.Refusal.{Refusal}
use Rattle.refusals.specs.Numbers.{number}
use Rattle.format.specs.declared.problem.Problem.{Problem}
use Rattle.format.specs.Accepting.{accepted, content_of}
use Rattle.format.specs.Problems.{the_problem, the_table, parts_reply}
use Rattle.format.proofs.AcceptLaws.{reading-refused}
use Rattle.format.proofs.ContentLaws.{Counts, accepted-reading, usable-counts, usable-sound, usable-width, usable-bytes, usable-table}
use Rattle.cobleskeg.specs.Answers.{header_of, unpack_reply}

-- ---- what a call leaves

module _ {A : Type 0} (view : A → List ℕ) (R : Reply A) where
  -- a refusal leaves what was lent as it was
  pub stays : (n : ℕ) (T : List ℕ) → R ≡ refused n → T ≡ leaves view R T
  unfolding leaves
  stays n T e = ap (λ r. leaves view r T) (sym e)

  -- an answer leaves what it shows
  pub shows : (a : A) (T : List ℕ) → answered a ≡ R → view a ≡ leaves view R T
  unfolding leaves
  shows a T e = ap (λ r. leaves view r T) e

-- ---- what looking the file over told

-- reading the file refuses it
pub refuses : (file : List ℕ) (e : Refusal) → parts_reply (Err e) ≡ accepted file → reading file ≡ refused (number e)
unfolding parts_reply
refuses file e told = reading-refused file (number e) told

-- reading the file gives this problem
pub record Accepts (file : List ℕ) (p : Problem) : Type 0 where
  pub reads : reading file ≡ answered (content_of p.file.now p.parts)

pub accepts : {file : List ℕ} {p : Problem} → parts_reply (Ok p) ≡ accepted file → p.file.now ≡ file → Accepts file p
unfolding parts_reply
accepts {file = file} {p = p} told e = record {
  reads = ap reading (sym e) ∙ accepted-reading p.file.now p.parts (told ∙ ap accepted (sym e));
}

-- ---- a file that is refused

module _ (file : List ℕ) (n : ℕ) (e : reading file ≡ refused n) where
  pub read-early : read (reading file) ≡ refused n
  unfolding read and_then
  read-early = ap read e

  pub unpack-early : (T : List ℕ) → unpack (reading file) T ≡ refused n
  unfolding unpack and_then
  unpack-early T = ap (λ r. unpack r T) e

-- ---- a file that is accepted

-- the problem has the counts of the parts
pub counts : (p : Problem) → Counts p.file.now p.parts
counts p = usable-counts p.file.now p.parts p.usable

pub sound : (p : Problem) → Sound (content_of p.file.now p.parts)
sound p = usable-sound p.file.now p.parts p.usable p.bytes

module _ {file : List ℕ} {p : Problem} (a : Accepts file p) where
  pub read-counts : answered (header_of (record { symbols = p.parts.k; strings = p.parts.s; numbers = p.parts.t; automata = p.parts.d; constraints = p.parts.c }))
      ≡ read (reading file)
  unfolding header_of read and_then
  read-counts =
      let c = counts p in
      let same : ◌≡◌ {A = Header} (record { symbols = p.parts.k; strings = p.parts.s; numbers = p.parts.t; automata = p.parts.d; constraints = p.parts.c }) (record {
        symbols = (the_problem p).symbols;
        strings = (the_problem p).strings;
        numbers = (the_problem p).numbers;
        automata = length (the_problem p).automata;
        constraints = length (the_problem p).constraints;
      }) = cc (c.symbols, c.strings, c.numbers, c.automata, c.constraints) in
      ap answered same ∙ ap read (sym a.reads)

  module _ (T : List ℕ) where
    on-content : unpack (reading file) T ≡ unpack (answered (content_of p.file.now p.parts)) T
    on-content = ap (λ r. unpack r T) a.reads

    pub unpack-nine : length T ≢ width (the_problem p) → unpack (reading file) T ≡ refused 9
    unfolding unpack and_then require_length require
    unpack-nine h = on-content ∙ rw (ne_eqb (length T) (width (the_problem p)) h)

    module _ (h : length T ≡ width (the_problem p)) (bs : List ℕ) (is : bs ≡ take p.parts.constraints_at p.file.now) where
      long : length T ≡ 64 * p.parts.s + p.parts.t
      long = h ∙ usable-width p.file.now p.parts p.usable

      -- what unpacking asks
      pub table-there : length bs ≡ 8 * length T
      table-there = ap length is ∙ usable-bytes p.file.now p.parts p.usable ∙ ap (λ (n : ℕ). 8 * n) (sym long)

      pub unpack-whole : (U : List ℕ) → U ≡ map little (pieces (length T) 8 bs)
          → (unpack_reply U (Ok (tt {0})) ≡ unpack (reading file) T) × (U ≡ leaves (λ T. T) (unpack (reading file) T) T)
      unfolding unpack and_then require_length require
      unpack-whole U u =
          let table : U ≡ the_table p = u ∙ ap₂ (λ (n : ℕ) (l : List ℕ). map little (pieces n 8 l)) long is ∙ sym (usable-table p.file.now p.parts p.usable) in
          let same : answered U ≡ unpack (reading file) T = sym (on-content ∙ rw (eq-eqb (length T) (width (the_problem p)) h) (ap answered (sym table))) in
          (same, shows (λ T. T) (unpack (reading file) T) U T same)
