pub mod Pairs
pub mod Frame
pub mod Lists
pub mod Members
pub mod Programs
pub mod Twins
pub mod States
pub mod Combinators
pub mod PlainRows
pub mod ObjectRows
pub mod NativeRows
pub mod Steps
pub mod Grow
pub mod FrameLaw
pub mod Conflicts
pub mod Same
pub mod Leaves
pub mod Histories
pub mod OwnRecord
pub mod OwnForm
mod PlaceTexts
pub mod Posts
pub mod OrderFaults
pub mod Plans
pub mod Walks
pub mod WalksThere
pub mod OnLiterals
mod Examples
