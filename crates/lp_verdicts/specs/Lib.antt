pub mod Scripts
pub mod Verdicts
pub mod Lines
pub mod Tested
