pub mod Octets
pub mod Reading
pub mod Runs
pub mod Padding
pub mod Writing
pub mod Tests
