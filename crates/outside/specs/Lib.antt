pub mod AlikeAnswers
pub mod Counts
pub mod Depot
pub mod FolderDepot
pub mod MemoryDepot
pub mod MemorySink
pub mod QuietSink
pub mod Sink
