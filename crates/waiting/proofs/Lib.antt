pub mod RunLaws
pub mod StartLaws
pub mod BeginLaws
pub mod TakingLaws
pub mod SettleLaws
pub mod StepLaws
