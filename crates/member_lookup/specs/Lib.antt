pub mod Ancestors
pub mod Walks
