pub mod Arguments
pub mod Doubles
pub mod Sizes
pub mod Sounding
pub mod Versioned
