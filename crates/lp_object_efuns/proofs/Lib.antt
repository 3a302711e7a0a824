pub mod Spelled
pub mod Shown
pub mod Acting
pub mod Groups
pub mod Settled
pub mod Bringing
pub mod Over
