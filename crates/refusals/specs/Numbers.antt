-- The number that documents 01 and 02 give to each refusal. Assumes nothing.
use Rattle.std.specs.Prelude.{ℕ, Result, Ok, Err}
use Rattle.refusals.specs.declared.Refusal.{Refusal}
use Rattle.refusals.specs.declared.Refusal.TheVariants.{
  FileLength,
  Mark,
  Counts,
  Layout,
  Automata,
  FileSymbols,
  Record,
  Repeated,
  TableLength,
  TableSymbols,
  StepNumber,
  RoomLength,
  AnswerLength,
  Pattern,
  Alphabet,
  States,
  BufferLength,
  IndexLength,
  IndexWords,
}

-- the papers' number of a refusal
abbrev pub number : Refusal → ℕ
-- "1: under 24 bytes"
number FileLength = 1
-- "2: no `TAIL`"
number Mark = 2
-- "3: k, s, t, d, c out of range or bytes 6 and 7 not 0"
number Counts = 3
-- "4: with L the automata distance, constraints distance not 4c + L, table distance not 8(64s + t) + 4c + L, or file size not table distance + 24"
number Layout = 4
-- "5: the L bytes are not exactly d automata as above"; by ticket 5 "5 when a next state is neither below q nor 255"
number Automata = 5
-- "6: a symbol word of the file's table has a bit at k or above"
number FileSymbols = 6
-- "7: a kind outside 1 to 7, an argument naming nothing, or an unused one not 0"
number Record = 7
-- "8: a constraint naming one string twice"
number Repeated = 8
-- "9: lent table not 64s + t words long"
number TableLength = 9
-- "10: a symbol word of the lent table has a bit at k or above"
number TableSymbols = 10
-- "11: j at or above c + s"
number StepNumber = 11
-- "12: room under 3 × (64s + t) words"
number RoomLength = 12
-- "13: answer table not 64s + t words"
number AnswerLength = 13
-- "14 when the text is too long or breaks these rules"
number Pattern = 14
-- "15 when k is not 1 to 64 or a letter's symbol is not below k"
number Alphabet = 15
-- "16 when more than 32 states are reached, the start included"
number States = 16
-- "17 when the buffer is shorter than 5 + qk"
number BufferLength = 17
-- "18 when the index buffer is not 2(s + t) words"
number IndexLength = 18
-- "19 when its words aren't this file's index"
number IndexWords = 19

-- the number of the refusal that a call answered, and 0 for none
abbrev pub number_in : {A : Type 0} → Result A Refusal → ℕ
number_in (Ok a) = 0
number_in (Err e) = number e
