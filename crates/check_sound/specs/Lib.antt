pub mod StepLaw
pub mod ReachLaw
pub mod TestLaw
pub mod PaceLaw
