pub mod Gosubs
pub mod RuleChecks
pub mod Scan
