pub mod Spelling
pub mod Placing
pub mod Telling
