pub mod Parts
pub mod Values
