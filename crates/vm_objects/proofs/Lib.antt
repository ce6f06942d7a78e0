pub mod Costs
pub mod Elements
pub mod Lengths
pub mod Using
