-- records put one after another, and the places that numbers name
pub mod Blocks
pub mod Assembled
pub mod AssemblyLaws
pub mod ClassSizes
-- texts, names and string constants
pub mod TextLaws
pub mod MentionLaws
pub mod Numbered
pub mod Pools
-- what the program without bodies and the whole one have alike
pub mod SkeletonFacts
-- entries: what they stand for, how they are used, their faults
pub mod TargetFacts
pub mod Referenced
pub mod FaultLaws
pub mod MarkLaws
-- look-up: what is found is there, and whose it is
pub mod Found
-- what Linked asks, field by field
pub mod Records
pub mod Tables
pub mod Distinct
pub mod Listed
pub mod ClassKinds
pub mod BodyLaws
pub mod BodyFacts
pub mod LinkedCode
pub mod Openings
pub mod SuiteTests
-- the whole
pub mod LinkLaw
pub mod LinkOnce
pub mod LinkSteps
