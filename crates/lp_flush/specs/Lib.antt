pub mod Flushing
pub mod Laws
