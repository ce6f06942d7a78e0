pub mod Choosing
pub mod Entered
pub mod Kept
pub mod Returned
pub mod Using
