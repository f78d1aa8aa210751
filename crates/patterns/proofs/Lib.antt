-- The laws about patterns, each module after those it cites: strings in two parts; the places of a pattern's letters; the letters that a reading may have just
-- passed; the states, which hold them, and the language; the text, read the same with any fuel that is enough; the numbering of the states; the automaton; its
-- bytes; what `compile` writes for a text.
pub mod Splits
pub mod Places
pub mod LetterLaws
pub mod StateLaws
pub mod TextLaws
pub mod FuelLaws
pub mod NumberingLaws
pub mod AutomatonLaws
pub mod EncodingLaws
pub mod CompileLaws
