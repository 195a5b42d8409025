pub mod Captures
pub mod Texts
pub mod Inside
pub mod Stops
pub mod Example
