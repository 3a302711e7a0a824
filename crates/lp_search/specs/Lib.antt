pub mod Critical
pub mod Cuts
pub mod Places
