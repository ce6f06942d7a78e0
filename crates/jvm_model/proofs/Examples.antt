-- Small suites, computed.
pub mod Parts
pub mod Suites
mod Larger
mod More
mod Natives
pub mod Linked
