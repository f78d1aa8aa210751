pub mod VisitLaws
pub mod ExploreLaws
