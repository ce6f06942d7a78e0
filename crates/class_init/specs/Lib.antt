pub mod Starting
pub mod Uses
