pub mod Names
pub mod Subjects
pub mod Turns
pub mod Deeds
pub mod Plain
