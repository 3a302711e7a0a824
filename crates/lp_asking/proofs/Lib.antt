pub mod Courses
pub mod Stopped
pub mod Resumed
pub mod States
pub mod Advanced
