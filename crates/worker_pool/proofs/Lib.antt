pub mod Tests
mod Crossing
