pub mod GeneratedSuite
pub mod GeneratedLaw
pub mod GeneratedRun
pub mod GeneratedRecord
