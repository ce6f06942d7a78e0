pub mod Detection
pub mod SuiteRun
