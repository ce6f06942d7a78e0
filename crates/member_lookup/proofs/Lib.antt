-- ancestors and cycles
pub mod Ancestry
pub mod FirstCycle
-- walks above a class
pub mod Walking
pub mod MentionFacts
-- look-up
pub mod Lookups
-- what look-up sees of a program
pub mod Alike
