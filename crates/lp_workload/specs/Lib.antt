pub mod Workload
pub mod Writes
pub mod Laws
