pub mod Filled
pub mod Entered
pub mod Left
pub mod Parts
