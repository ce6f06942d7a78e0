pub mod Sets
pub mod Graphs
