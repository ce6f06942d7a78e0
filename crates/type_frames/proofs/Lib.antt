pub mod PlaceLemmas
pub mod MapLemmas
pub mod AssignLaws
pub mod Started
pub mod TypedExample
