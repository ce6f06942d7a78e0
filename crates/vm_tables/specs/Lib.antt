pub mod Hierarchy
pub mod FieldPlaces
pub mod FieldUnits
pub mod Interfaces
pub mod Methods
pub mod Numbers
pub mod Starts
