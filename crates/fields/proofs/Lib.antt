pub mod Addresses
pub mod Texts
pub mod Passing
pub mod FixedItems
pub mod Compounds
pub mod Forms
pub mod Answers
pub mod WordRows
