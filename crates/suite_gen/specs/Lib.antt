pub mod Bytes
pub mod Generated
