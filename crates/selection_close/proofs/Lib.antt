pub mod Lists
pub mod Orders
pub mod Sets
pub mod Closings
