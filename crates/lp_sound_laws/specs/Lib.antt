pub mod Counted
pub mod Heights
pub mod Parts
pub mod Placed
