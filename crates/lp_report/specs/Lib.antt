pub mod Needed
pub mod Report
