pub mod Moving
pub mod Reaching
