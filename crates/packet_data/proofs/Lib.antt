pub mod Headers
pub mod Ip
