pub mod Ancestors
pub mod FieldUnits
pub mod Gathering
pub mod Laid
pub mod Places
pub mod Started
