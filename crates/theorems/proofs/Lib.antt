pub mod Cases
pub mod Demands
pub mod Lengths
pub mod Requests
