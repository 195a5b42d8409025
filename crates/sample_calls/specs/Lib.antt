pub mod SampleReports
