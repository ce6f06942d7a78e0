pub mod Stored
pub mod Parts
