pub mod EngineStates
pub mod Follows
pub mod Keys
pub mod Ends
