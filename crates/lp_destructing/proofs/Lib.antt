mod Ended
mod Deed
pub mod Settled
