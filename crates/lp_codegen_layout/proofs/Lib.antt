pub mod Each
pub mod Meant
pub mod Entries
pub mod Paths
