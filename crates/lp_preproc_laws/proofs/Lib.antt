pub mod Decision
pub mod Ends
pub mod Expanded
pub mod Spelling
pub mod Reading
