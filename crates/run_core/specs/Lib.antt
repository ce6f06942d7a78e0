pub mod Run
pub mod Refusal
pub mod Kept
