pub mod Inputs
pub mod Cases
pub mod Numbers
pub mod Demands
pub mod Requests
