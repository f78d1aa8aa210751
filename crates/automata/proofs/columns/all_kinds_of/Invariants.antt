use Rattle.std.specs.Prelude.{Some}
use Rattle.laws.specs.Inclusion.{Within}
use Rattle.automata.proofs.SetLaws.{Walked}
use Rattle.automata.proofs.KindLaws.{OfKind}
use Rattle.automata.proofs.columns.all_kinds_of.Given as goal

abbrev pub invariant-loop-a : goal.invariant-loop-a
invariant-loop-a l = Walked 64 l.firsts (OfKind (Some l.ks) l.firsts) l.a-iterator.rest l.r × Within l.firsts l.r
