mod Ranges
mod Names
pub mod Spelled
mod Parts
