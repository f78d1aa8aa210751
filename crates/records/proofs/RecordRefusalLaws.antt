-- Laws of refusals 7 and 8: what a loop over the records has shown so far, and what records that have neither are. Assumes nothing.
use Rattle.std.specs.Prelude as std
use Rattle.std.specs.Prelude.{Some, None}
use Rattle.std.specs.Bool.{MatchBool}
use Rattle.std.specs.List.{range_with_len, HoldsAt, AllWithin}
use Rattle.std.specs.Option.{MatchOption}
use Rattle.std.proofs.lemmas.List.FromFn.{length-range_with_len, get_or-range_with_len}
use Rattle.std.proofs.Common.{zero-add}
use mathlib.Core.Path.{◌≡◌, refl, sym, ap, ◌∙◌}
use mathlib.Core.Bool.{Bool, true, false, cond}
use mathlib.Core.List.{List, []}
use mathlib.Core.Option.{Option, none, some}
use mathlib.Core.Logic.{⊎_elim}
use Prim.Native.Nat.{ℕ, ◌+◌, ◌*◌, ◌/◌, ◌<◌, ◌≤◌}
use native.Mathlib.Nat.{eq-or-lt_of_le}
use native.Mathlib.Omega.{arith}
use lib.ListN.{length, get_or}
use Rattle.model.specs.Lists.{any, collect}
use Rattle.model.specs.Constraints.{Constraint, always, variables}
use Rattle.model.specs.Layout.{part}
use Rattle.model.specs.Reading.{pieces, decode, repeats}
use Rattle.laws.proofs.ListLaws.{get_or_in, in_get_or, in_any}
use Rattle.laws.proofs.ReadingLaws.{pieces-length, pieces-at}
use Rattle.records.specs.declared.Record.{Record}
use Rattle.records.specs.Records.{constraint_of, decoded_of, repeating, standing, repeated_in, refusal_in}
use Rattle.laws.proofs.CollectLaws.{any_none, collect-none, collect-all, collect-length, collect-at}

module _ (s t d : ℕ) (bytes : List ℕ) where
  -- the first j records are constraints
  pub record Decodes (j : ℕ) : Type 0 where
    pub each : (i : ℕ) → i < j → (k : Constraint) × (decode s t d (part (4 * i) 4 bytes) ≡ some k)

-- ---- record j among the pieces

module _ (s t d c : ℕ) (bytes : List ℕ) where
  record-at : (j : ℕ) → j < c → get_or (pieces c 4 bytes) j [] ≡ part (4 * j) 4 bytes
  record-at j h = let e : j * 4 ≡ 4 * j = omega arith in pieces-at c 4 bytes j h ∙ ap (λ (i : ℕ). part i 4 bytes) e

  below-count : (j : ℕ) → j < c → j < length (pieces c 4 bytes)
  below-count j h = let e = pieces-length c 4 bytes in omega arith

  -- each record decodes to its constraint
  pub decoded-at : (cs : List Constraint) → collect (decode s t d) (pieces c 4 bytes) ≡ some cs → (j : ℕ) → j < c → decode s t d (part (4 * j) 4 bytes) ≡ some (get_or cs j (always 0))
  decoded-at cs e j h = ap (decode s t d) (sym (record-at j h)) ∙ collect-at (decode s t d) (pieces c 4 bytes) cs [] (always 0) e j (below-count j h)

  -- there are as many
  pub decoded-count : (cs : List Constraint) → collect (decode s t d) (pieces c 4 bytes) ≡ some cs → length cs ≡ c
  decoded-count cs e = collect-length (decode s t d) (pieces c 4 bytes) cs e ∙ pieces-length c 4 bytes

  -- a record that is no constraint leaves none
  none-collected : (j : ℕ) → j < c → decode s t d (part (4 * j) 4 bytes) ≡ none → collect (decode s t d) (pieces c 4 bytes) ≡ none
  none-collected j h e = collect-none (decode s t d) (pieces c 4 bytes) [] j (below-count j h) (ap (decode s t d) (record-at j h) ∙ e)

-- ---- a record that may name one string twice

-- what a test of a record that may be there answers, where it is that of one string named twice
pub twice-decoded : (o : std.Option Record) (b : Bool) (P : Record → Type 0) → MatchOption o (b ≡ false) P
    → ((r : Record) → P r → b ≡ repeats (variables (constraint_of r))) → b ≡ repeating (decoded_of o)
unfolding repeating decoded_of
twice-decoded (Some r) b P m h = h r m
twice-decoded None b P m h = m

-- ---- refusal 7

-- one record more, at its place
pub decodes_next : {s t d : ℕ} {bytes : List ℕ} (j i : ℕ) (k : Constraint) → Decodes s t d bytes j → i ≡ 4 * j → decode s t d (part i 4 bytes) ≡ some k
    → Decodes s t d bytes (j + 1)
decodes_next {s} {t} {d} {bytes} j i k p at e = record {
  each = λ m h. ⊎_elim
      (λ (w : m ≡ j). (k, ap (λ (n : ℕ). decode s t d (part n 4 bytes)) (ap (λ (n : ℕ). 4 * n) w ∙ sym at) ∙ e))
      (λ (l : m < j). p.each m l)
      (eq-or-lt_of_le (omega arith));
}

module _ (s t d c : ℕ) (bytes : List ℕ) where
  -- a record that is no constraint, at its place
  pub one-fails : (j i : ℕ) → j < c → i ≡ 4 * j → decode s t d (part i 4 bytes) ≡ none → 7 ≡ standing (collect (decode s t d) (pieces c 4 bytes))
  unfolding standing
  one-fails j i h at e = rw (none-collected s t d c bytes j h (ap (λ (n : ℕ). decode s t d (part n 4 bytes)) (sym at) ∙ e))

  pub none-fails : (j : ℕ) → c ≤ j → Decodes s t d bytes j → 0 ≡ standing (collect (decode s t d) (pieces c 4 bytes))
  unfolding standing
  none-fails j q p =
      let n = pieces-length c 4 bytes in
      let all = collect-all (decode s t d) (pieces c 4 bytes) [] (λ i l.
      let k = p.each i (omega arith) in
      (k.0, ap (decode s t d) (record-at s t d c bytes i (omega arith)) ∙ k.1)) in
      rw all.1

  -- bytes of c records have c whole records
  pub counted : 4 * c ≡ length bytes → collect (decode s t d) (pieces (length bytes / 4) 4 bytes) ≡ collect (decode s t d) (pieces c 4 bytes)
  counted e = let f : length bytes / 4 ≡ c = omega arith in ap (λ (n : ℕ). collect (decode s t d) (pieces n 4 bytes)) f

-- ---- refusal 8

module _ (s t d c : ℕ) (bytes : List ℕ) (cs : List Constraint) (all : collect (decode s t d) (pieces c 4 bytes) ≡ some cs) where
  -- record j is a constraint that names one string twice
  abbrev pub twice-at : ℕ → Bool
  twice-at j = repeating (decode s t d (part (4 * j) 4 bytes))

  of-record : (j : ℕ) → j < c → twice-at j ≡ repeats (variables (get_or cs j (always 0)))
  unfolding repeating
  of-record j h = ap repeating (decoded-at s t d c bytes cs all j h)

  -- the first record that does, among all of them, or none
  pub found-any : (r : Bool)
      → MatchBool r ((j : ℕ) × (j < length (range_with_len 0 c)) × HoldsAt (λ j. twice-at j ≡ true) (range_with_len 0 c) j)
      (AllWithin (λ j. twice-at j ≡ false) (range_with_len 0 c) 0 (length (range_with_len 0 c)))
      → r ≡ any (λ k. repeats (variables k)) cs
  found-any true (j, l, holds) =
      let n = length-range_with_len 0 c in
      let m = decoded-count s t d c bytes cs all in
      let e = get_or-range_with_len 0 c j 0 (omega arith) ∙ zero-add j in
      let twice = ap twice-at (sym e) ∙ holds 0 in
      sym (in_any (λ k. repeats (variables k)) (get_or_in cs j (always 0) (omega arith)) (sym (of-record j (omega arith)) ∙ twice))
  found-any false never =
      let n = length-range_with_len 0 c in
      let m = decoded-count s t d c bytes cs all in
      sym (any_none (λ k. repeats (variables k)) cs (λ k there.
      let i = in_get_or cs (always 0) there in
      let l = i.1 in
      let e = get_or-range_with_len 0 c i.0 0 (omega arith) ∙ zero-add i.0 in
      ap (λ (x : Constraint). repeats (variables x)) (sym i.2) ∙ sym (of-record i.0 (omega arith)) ∙ ap twice-at (sym e) ∙ never i.0 0 (omega arith) (omega arith)))

-- ---- both, in their order

-- what does not stand is refused
pub stopped : (o : Option (List Constraint)) (n : ℕ) → n ≡ standing o → 0 < n → n ≡ refusal_in o
unfolding standing refusal_in
stopped none n e h = e
stopped (some cs) n e h = absurd (omega arith)

-- what stands is refused just where a constraint repeats a string
pub stood : (o : Option (List Constraint)) (r : Bool) → 0 ≡ standing o → ((cs : List Constraint) → o ≡ some cs → r ≡ any (λ k. repeats (variables k)) cs)
    → cond r 8 0 ≡ refusal_in o
unfolding standing refusal_in repeated_in
stood none r e h = absurd (omega arith)
stood (some cs) r e h = ap (λ (b : Bool). cond b 8 0) (h cs refl)
