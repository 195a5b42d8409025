pub mod Appends
pub mod Limits
pub mod SoFar
pub mod Starts
pub mod Theorems
