pub mod Forms
pub mod Nests
