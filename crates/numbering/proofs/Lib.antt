-- Laws for the numbering: what the letters of a set give; unions number by number; the list of states in the words; the loop over states.
pub mod GatherLaws
pub mod JoinLaws
pub mod ListedLaws
pub mod StandLaws
