pub mod Compose
pub mod Found
pub mod Meanings
pub mod Parts
pub mod Trees
pub mod Refusals
