pub mod CounterReports
