pub mod Meanings
pub mod Numbers
pub mod Variables
pub mod Sources
