pub mod Updates
pub mod Tables
pub mod Sameness
pub mod Theorems
pub mod Answers
pub mod Opening
