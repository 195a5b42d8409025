pub mod EngineStates
pub mod Results
