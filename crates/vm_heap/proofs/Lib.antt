pub mod Entries
pub mod Objects
pub mod Cells
pub mod Overlay
