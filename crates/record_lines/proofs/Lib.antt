pub mod Digits
pub mod Puts
pub mod Records
pub mod Room
