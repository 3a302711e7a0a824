pub mod InMemory
pub mod Kept
