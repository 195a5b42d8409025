pub mod Opcodes
pub mod Records
pub mod Bits
pub mod Machine
pub mod Room
pub mod Checks
pub mod Demand
