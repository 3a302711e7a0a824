pub mod Readings
pub mod FrontEnds
pub mod Stores
pub mod Told
pub mod Parents
pub mod Examples
