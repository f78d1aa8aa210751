-- The laws of Regular: bits; ways along a row; the sets of states that the loop forwards makes; what lies on accepted ways; how the automaton is asked;
-- support; the step in place.
pub mod BitLaws
pub mod PathLaws
pub mod StateLaws
pub mod BackLaws
pub mod AskLaws
pub mod RegularLaws
pub mod StepLaws
