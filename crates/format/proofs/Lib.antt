-- The laws of a file that is looked over: the number it is refused with, and what an accepted file holds.
pub mod RefusalOrderLaws
pub mod LentPartLaws
pub mod OutcomeLaws
pub mod AcceptLaws
pub mod ContentLaws
