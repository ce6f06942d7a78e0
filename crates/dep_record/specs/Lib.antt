pub mod DepsJson
pub mod DepsText
pub mod Fields
pub mod Hashes
pub mod Laws
pub mod RecordReading
pub mod RecordText
