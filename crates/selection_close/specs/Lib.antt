pub mod Faults
pub mod Closed
