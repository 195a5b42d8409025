pub mod Reports
pub mod Addresses
