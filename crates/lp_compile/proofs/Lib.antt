pub mod Clearing
pub mod Given
pub mod Making
pub mod Settling
pub mod Standing
pub mod Translating
