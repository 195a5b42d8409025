pub mod Flows
pub mod CounterSamples
pub mod SampleKinds
pub mod Heads
pub mod Wholes
pub mod Walks
