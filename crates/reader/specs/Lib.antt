pub mod Samples
pub mod Datagrams
