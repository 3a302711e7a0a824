pub mod Arguments
pub mod Units
pub mod Versions
