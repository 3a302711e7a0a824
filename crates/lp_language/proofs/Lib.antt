pub mod Kept
pub mod Prices
pub mod Bodies
