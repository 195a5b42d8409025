pub mod Reports
pub mod Exactly
