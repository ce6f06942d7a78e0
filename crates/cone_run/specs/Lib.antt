pub mod Cones
pub mod Runs
pub mod ConeLaw
pub mod Books
pub mod Marks
pub mod Marking
pub mod ConesText
pub mod ManifestText
