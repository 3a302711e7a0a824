pub mod Calls
pub mod Inherited
pub mod Kept
pub mod Lookups
pub mod Memory
pub mod Shadows
pub mod Wanting
pub mod Worlds
