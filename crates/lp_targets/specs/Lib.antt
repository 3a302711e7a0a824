pub mod Brought
pub mod Callees
