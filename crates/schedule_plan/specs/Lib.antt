pub mod Grouping
pub mod Plans
