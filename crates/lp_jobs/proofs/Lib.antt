pub mod Handed
pub mod Heard
