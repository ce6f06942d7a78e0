pub mod Entries
pub mod Held
pub mod Objects
pub mod Changes
pub mod Opened
