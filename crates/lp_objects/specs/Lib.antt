pub mod Objects
pub mod Stands
