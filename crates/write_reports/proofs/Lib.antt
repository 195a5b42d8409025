pub mod WriteReports
