pub mod Errors
pub mod Hashed
pub mod Read
pub mod Limits
