pub mod Barred
pub mod Begun
