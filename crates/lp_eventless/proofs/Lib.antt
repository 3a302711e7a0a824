pub mod Readers
pub mod Starting
