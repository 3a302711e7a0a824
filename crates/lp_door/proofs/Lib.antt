pub mod Bytes
pub mod Dropping
pub mod Reading
pub mod Showing
