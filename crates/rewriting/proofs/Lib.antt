pub mod Fields
pub mod Entries
pub mod Packets
pub mod Extended
pub mod Samples
pub mod Appending
pub mod Theorems
pub mod Calls
