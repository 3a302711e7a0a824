pub mod Puts
pub mod Forgotten
