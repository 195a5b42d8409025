pub mod Refusals
pub mod Slices
pub mod Grammar
pub mod Decode
pub mod Datagram
pub mod Reading
