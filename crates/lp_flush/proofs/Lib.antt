pub mod Going
pub mod Kept
