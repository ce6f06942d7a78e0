pub mod Abs
pub mod Turns
pub mod Driving
pub mod Rows
pub mod Reaching
pub mod Dispatching
