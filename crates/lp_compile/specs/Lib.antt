pub mod Compiles
pub mod Faultless
pub mod Known
pub mod Outcomes
pub mod Settled
pub mod Translated
