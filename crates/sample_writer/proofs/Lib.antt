pub mod FitTests
pub mod NumberRuns
pub mod CounterForms
pub mod Flows
pub mod OneSample
