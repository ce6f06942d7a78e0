pub mod Bits
pub mod Edges
pub mod Form
pub mod RowLaws
pub mod SourceLaws
