use Rattle.std.proofs.Common.{arith}
use Rattle.std.specs.Int.{w32, to_le_bytes}
use mathlib.Core.Path.{◌≡◌, ap, ◌∙◌}
use mathlib.Core.List.{List}
use mathlib.Core.Option.{Option}
use Prim.Native.Nat.{ℕ, ◌+◌, ◌*◌, ◌/◌, ◌≤◌}
use lib.ListN.{length}
use Rattle.model.specs.Constraints.{Constraint}
use Rattle.model.specs.Layout.{Bytes, little, part}
use Rattle.model.specs.Reading.{decode}
use Rattle.reader.specs.declared.Reader.{Reader}
use Rattle.records.proofs.RecordLaws.{is-constraint, is_none, of_number}
use Rattle.records.proofs.RecordRefusalLaws.{decodes_next, one-fails, none-fails}
use Rattle.records.proofs.all_stand.Goals as goal

-- what is decoded of the number that a reader read, of the bytes that it read
of-bytes : (s t d i n : ℕ) (o : Option Constraint) (r seen bs : List ℕ) → Bytes bs → seen ≡ bs → i + 4 ≤ length bs → n ≡ little (part i 4 seen)
    → r ≡ to_le_bytes w32 n → o ≡ decode s t d r → o ≡ decode s t d (part i 4 bs)
of-bytes s t d i n o r seen bs small same h e q m =
    m ∙ ap (decode s t d) (q ∙ ap (to_le_bytes w32) (e ∙ ap (λ (xs : List ℕ). little (part i 4 xs)) same) ∙ of_number i bs small h)

pub returns-in_default : goal.returns-in_default
returns-in_default c =
    let a = c.args in
    let p = c.loop-reader.invariant in
    let i = c.loop-reader.reader.at in
    let long = ap length p.1 in
    let enough : i + 4 ≤ length a.bytes.now = omega arith in
    let e = of-bytes a.p.now.s a.p.now.t a.p.now.d i _ _ _ _ a.bytes.now (λ j. (c.type_inv.bytes j).fits) p.1 enough c.record.ensures.number
    c.to_le_bytes.ensures c.decode.ensures in
    one-fails a.p.now.s a.p.now.t a.p.now.d (length a.bytes.now / 4) a.bytes.now p.0 i (omega arith) p.2 (is_none e c.in_default.is)

pub loop-reader-preserved : goal.loop-reader-preserved
loop-reader-preserved c =
    let a = c.args in
    let p = c.loop-reader.invariant in
    let i = c.loop-reader.reader.at in
    let long = ap length p.1 in
    let enough : i + 4 ≤ length a.bytes.now = omega arith in
    let e = of-bytes a.p.now.s a.p.now.t a.p.now.d i _ _ _ _ a.bytes.now (λ j. (c.type_inv.bytes j).fits) p.1 enough c.record.ensures.number
    c.to_le_bytes.ensures c.decode.ensures in
    let place : c.record.new.self.at ≡ 4 * (p.0 + 1) = omega (arith, ap (λ (x : Reader). x.at) c.record.ensures.place) in (
      p.0 + 1,
      ap (λ (x : Reader). x.bytes.now) c.record.ensures.place ∙ p.1,
      place,
      decodes_next p.0 i _ p.3 p.2 (is-constraint e c.in-Some.is),
    )

pub returns : goal.returns
returns c =
    let a = c.args in
    let p = c.loop-reader.invariant in
    let long = ap length p.1 in
    none-fails a.p.now.s a.p.now.t a.p.now.d (length a.bytes.now / 4) a.bytes.now p.0 (omega arith) p.3
