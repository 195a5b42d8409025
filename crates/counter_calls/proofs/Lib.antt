pub mod BodyNumbers
pub mod CounterRuns
