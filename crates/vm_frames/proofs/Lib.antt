pub mod Kept
pub mod Lower
pub mod Tops
pub mod Frames
pub mod Entering
