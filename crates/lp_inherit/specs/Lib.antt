pub mod Heirs
pub mod Examples
