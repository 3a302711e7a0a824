pub mod Rows
pub mod Callees
