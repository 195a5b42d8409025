pub mod Routers
pub mod Segments
pub mod Gateways
pub mod Users
pub mod DataTypes
