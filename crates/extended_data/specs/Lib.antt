pub mod ExtendedData
