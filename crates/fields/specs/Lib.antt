pub mod Parts
pub mod Addresses
pub mod Strings
pub mod Words
