pub mod Exists
pub mod Called
