pub mod Captures
pub mod Texts
