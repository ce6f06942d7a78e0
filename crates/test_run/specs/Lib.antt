pub mod Outcomes
pub mod Running
pub mod Lists
pub mod Tallies
