pub mod Marks
pub mod Needs
