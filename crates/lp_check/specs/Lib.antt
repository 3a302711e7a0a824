pub mod Report
pub mod Sources
pub mod Told
pub mod Unique
