pub mod Trace
pub mod Refines
pub mod Stores
pub mod Kept
pub mod Noting
