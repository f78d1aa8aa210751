-- What the parts of an accepted file hold: its problem by the parts' counts and bytes, and that this is what reading the file gives. Assumes nothing.
use mathlib.Core.Path.{◌≡◌, refl, sym, ap, ◌∙◌}
use mathlib.Core.List.{List, map}
use mathlib.Core.Option.{some, some-injective}
use Rattle.std.specs.Prelude.{Option, Some, None}
use Rattle.std.specs.Option.{IsSome}
use Prim.Native.Nat.{ℕ, ◌+◌, ◌-◌, ◌*◌, ◌≤◌, ◌<◌}
use native.Mathlib.Omega.{arith}
use lib.ListN.{length, get_or, take, drop}
use lib.Seq.{length-take-le}
use Rattle.model.specs.Constraints.{always, regular, width}
use Rattle.model.specs.Replies.{answered}
use Rattle.model.specs.Layout.{Bytes, little, part}
use Rattle.model.specs.Reading.{decode, pieces, reading}
use Rattle.layout.specs.declared.Parts.{Parts}
use Rattle.layout.specs.Replied.{parts_of, PartsFit}
use Rattle.laws.specs.Inclusion.{In}
use Rattle.laws.proofs.ListLaws.{collect_in}
use Rattle.laws.proofs.ReadingLaws.{take-bytes, decode-machine, Sound, problem_of-sound}
use Rattle.records.specs.declared.Record.{Record}
use Rattle.records.specs.Records.{constraint_of, decoded_of}
use Rattle.records.proofs.RecordLaws.{is-constraint, is_none}
use Rattle.records.proofs.RecordRefusalLaws.{decoded-at}
use Rattle.format.specs.Accepting.{accepted, given_by, content_of, problem_in, table_in, Usable}
use Rattle.format.proofs.AcceptLaws.{Holds, problem_of-holds, Held, reading-held}

pub record Counts (file : List ℕ) (p : Parts) : Type 0 where
  pub symbols : (problem_in file p).symbols ≡ p.k
  pub strings : (problem_in file p).strings ≡ p.s
  pub numbers : (problem_in file p).numbers ≡ p.t
  pub automata : length (problem_in file p).automata ≡ p.d
  pub constraints : length (problem_in file p).constraints ≡ p.c
  pub most-words : width (problem_in file p) ≤ 1040

module _ (file : List ℕ) (p : Parts) where
  -- ---- a file that was looked over

  module _ (e : answered (parts_of file p) ≡ accepted file) where
    held : Held file (parts_of file p)
    held = reading-held file (parts_of file p) e

    content-held : content_of file p ≡ held.content
    unfolding content_of given_by
    content-held = ap given_by held.parted

    pub accepted-usable : PartsFit file p → Usable file p
    accepted-usable f = record { fits = f; read = held.parted ∙ ap answered (sym content-held) }

    pub accepted-reading : reading file ≡ answered (content_of file p)
    accepted-reading = held.read ∙ ap answered (sym content-held)

  -- ---- what usable parts hold

  module _ (u : Usable file p) where
    pub usable-holds : Holds (parts_of file p) (content_of file p)
    usable-holds = problem_of-holds (parts_of file p) (content_of file p) u.read

    -- the counts of the problem are those of the parts
    pub usable-counts : Counts file p
    unfolding parts_of
    usable-counts =
        let h = usable-holds in
        record {
          symbols = h.symbols;
          strings = h.strings;
          numbers = h.numbers;
          automata = h.automata;
          constraints = h.constraints;
          most-words = omega (arith, h.strings, h.numbers, u.fits.strings-most, u.fits.numbers-most);
        }

    pub usable-sound : Bytes file → Sound (content_of file p)
    unfolding parts_of
    usable-sound b = problem_of-sound (parts_of file p) (take-bytes (8 * (64 * p.s + p.t)) (drop 0 file) b) (content_of file p) u.read

    -- the automaton that a constraint names is there
    pub usable-machine : (x i : ℕ) → In (regular x i) (problem_in file p).constraints → i < p.d
    unfolding parts_of
    usable-machine x i m =
        let h = usable-holds in
        let r = collect_in _ _ (problem_in file p).constraints h.decoded (regular x i) m in
        decode-machine (problem_in file p) p.d r.0 x i (ap (λ (s : ℕ). decode s (problem_in file p).numbers p.d r.0) h.strings ∙ ap (λ (t : ℕ). decode p.s t p.d r.0) h.numbers ∙ r.1)

    -- ---- the table: its words, and its bytes, which are those before the constraints

    pub usable-width : width (problem_in file p) ≡ 64 * p.s + p.t
    usable-width = let c = usable-counts in omega (arith, c.strings, c.numbers)

    pub usable-end : p.constraints_at ≡ length (take p.constraints_at file)
    usable-end = let f = u.fits in sym (length-take-le p.constraints_at file (omega (arith, f.constraints-end, f.automata-end, f.trailer-end)))

    pub usable-bytes : length (take p.constraints_at file) ≡ 8 * (64 * p.s + p.t)
    usable-bytes = sym usable-end ∙ u.fits.table-end

    pub usable-table : table_in file p ≡ map little (pieces (64 * p.s + p.t) 8 (take p.constraints_at file))
    unfolding parts_of
    usable-table = usable-holds.table ∙ ap (λ (n : ℕ). map little (pieces (64 * p.s + p.t) 8 (take n file))) (sym u.fits.table-end)

    -- ---- the constraints: record j of the bytes between the table and the automata is constraint j

    pub usable-record : (j : ℕ) → j < p.c
        → decode p.s p.t p.d (part (4 * j) 4 (take (p.automata_at - p.constraints_at) (drop p.constraints_at file)))
        ≡ some (get_or (problem_in file p).constraints j (always 0))
    unfolding parts_of
    usable-record j less =
        let n : p.automata_at - p.constraints_at ≡ 4 * p.c = omega (arith, u.fits.constraints-end) in
        ap (λ (n : ℕ). decode p.s p.t p.d (part (4 * j) 4 (take n (drop p.constraints_at file)))) n
        ∙ decoded-at p.s p.t p.d p.c _ (problem_in file p).constraints usable-holds.decoded j less

    -- so that what the code takes for record j is one, and that constraint
    module _ (j : ℕ) (o : Option Record) (e : decoded_of o ≡ decode p.s p.t p.d (part (4 * j) 4 (take (p.automata_at - p.constraints_at) (drop p.constraints_at file))))
        (less : j < p.c) where
      pub constraint-is : (r : Record) → o ≡ Some r → constraint_of r ≡ get_or (problem_in file p).constraints j (always 0)
      constraint-is r q = some-injective _ _ (sym (is-constraint e q) ∙ usable-record j less)

      pub constraint-there : IsSome o
      constraint-there = go o e
        where
          go : (o : Option Record) → decoded_of o ≡ decode p.s p.t p.d (part (4 * j) 4 (take (p.automata_at - p.constraints_at) (drop p.constraints_at file))) → IsSome o
          go None e = let q = sym (is_none e refl) ∙ usable-record j less in cc
          go (Some r) e = refl
