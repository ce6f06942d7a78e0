pub mod Quiet
pub mod StillLaw
pub mod Leaving
pub mod Starts
pub mod Opens
pub mod QuietText
pub mod TypedAgain
