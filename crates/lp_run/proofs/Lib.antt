pub mod Stilled
pub mod Keeping
pub mod Together
pub mod Caught
pub mod Taken
pub mod Reading
