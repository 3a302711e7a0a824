pub mod Marked
pub mod Named
pub mod Dropped
pub mod Kept
