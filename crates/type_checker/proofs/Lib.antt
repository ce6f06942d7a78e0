pub mod Stacks
pub mod Fitting
pub mod Onward
pub mod StackMaps
pub mod Typed
