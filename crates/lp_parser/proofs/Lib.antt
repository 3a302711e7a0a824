pub mod Complete
pub mod Sound
pub mod Levels
pub mod Viable
pub mod Main
pub mod Replies
pub mod Readings
pub mod Steps
