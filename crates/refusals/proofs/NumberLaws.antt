-- No refusal has the number 0, which stands for none. Assumes nothing.
use Rattle.std.proofs.Common.{◌<◌, lit<}
use Rattle.refusals.specs.declared.Refusal.{Refusal}
use Rattle.refusals.specs.declared.Refusal.TheVariants.{FileLength, Mark, Counts, Layout, Automata, FileSymbols, Record, Repeated, TableLength, TableSymbols, StepNumber, RoomLength, AnswerLength, Pattern, Alphabet, States, BufferLength, IndexLength, IndexWords}
use Rattle.refusals.specs.Numbers.{number}

pub number-some : (e : Refusal) → 0 < number e
number-some FileLength = lit< tt
number-some Mark = lit< tt
number-some Counts = lit< tt
number-some Layout = lit< tt
number-some Automata = lit< tt
number-some FileSymbols = lit< tt
number-some Record = lit< tt
number-some Repeated = lit< tt
number-some TableLength = lit< tt
number-some TableSymbols = lit< tt
number-some StepNumber = lit< tt
number-some RoomLength = lit< tt
number-some AnswerLength = lit< tt
number-some Pattern = lit< tt
number-some Alphabet = lit< tt
number-some States = lit< tt
number-some BufferLength = lit< tt
number-some IndexLength = lit< tt
number-some IndexWords = lit< tt
