pub mod Steps
pub mod Loop
pub mod Codec
pub mod Parts
pub mod Whole
pub mod Ordered
