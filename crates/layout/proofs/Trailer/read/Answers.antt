-- Each number is read where the one before ended, so the numbers are the trailer's.
use mathlib.Core.Path.{refl}
use Rattle.layout.proofs.TrailerLaws.{trailer-numbers}
use Rattle.layout.proofs.Trailer.read.Goals as goal

pub returns : goal.returns
returns c =
    rw (
      c.next-9.ensures.number,
      c.next-8.ensures.place,
      c.next-8.ensures.number,
      c.next-7.ensures.place,
      c.next-7.ensures.number,
      c.next-6.ensures.place,
      c.next-6.ensures.number,
      c.next-5.ensures.place,
      c.next-5.ensures.number,
      c.next-4.ensures.place,
      c.next-4.ensures.number,
      c.next-3.ensures.place,
      c.next-3.ensures.number,
      c.next-2.ensures.place,
      c.next-2.ensures.number,
      c.next.ensures.place,
      c.next.ensures.number,
    ) (trailer-numbers c.args.file.now _ refl refl refl refl refl refl refl refl refl)
