pub mod Slots
pub mod Extents
pub mod Stack
