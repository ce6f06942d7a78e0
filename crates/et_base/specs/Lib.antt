pub mod Answers
pub mod Utf
pub mod UtfReading
pub mod Numbers
pub mod Quotes
pub mod Names
