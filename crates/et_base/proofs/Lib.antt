pub mod Cases
pub mod Ranges
pub mod UtfLaws
pub mod NumberLaws
pub mod Utf8Laws
pub mod Texts
