pub mod Backwards
pub mod Courses
pub mod Popped
pub mod Parts
pub mod Tried
pub mod Told
pub mod Started
pub mod Commanded
