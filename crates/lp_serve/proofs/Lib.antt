pub mod Doing
pub mod Ordering
pub mod RoundsHeard
pub mod Running
pub mod Blaming
pub mod Shortened
