pub mod Faults
pub mod Jobs
pub mod Beginning
pub mod Arguments
pub mod Feeding
