pub mod FlowValues
pub mod CounterValues
