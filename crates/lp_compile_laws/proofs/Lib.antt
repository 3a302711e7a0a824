pub mod Apart
pub mod Telling
