pub mod Starts
pub mod Using
