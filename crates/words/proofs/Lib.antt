-- The laws of the words' ends, of words with all bits below a place, of words with none at a place or above, and of words with several bits.
pub mod EndLaws
pub mod BelowLaws
pub mod NoneFromLaws
pub mod SeveralLaws
