pub mod Reading
pub mod Loops
pub mod Grammar
pub mod NamesGrammar
pub mod Pool
pub mod PoolGrammar
pub mod Marks
pub mod Offsets
