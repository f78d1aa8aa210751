-- The laws of `queue`, each module after those it cites: the ring (`RingLaws`), the steps that join as two words (`JoiningLaws`, `PlaceLaws`), a turn (`TurnLaws`), and all
-- turns (`RunLaws`).
pub mod RingLaws
pub mod JoiningLaws
pub mod PlaceLaws
pub mod TurnLaws
pub mod RunLaws
