pub mod Putting
pub mod Ended
