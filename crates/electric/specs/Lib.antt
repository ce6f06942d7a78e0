pub mod Answers
pub mod Gathered
