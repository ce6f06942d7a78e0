pub mod Joins
pub mod OneTest
pub mod After
pub mod Lists
pub mod TallyLaws
