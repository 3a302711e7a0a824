pub mod Finish
pub mod Rows
pub mod Stands
pub mod Used
