pub mod Beginning
pub mod Efuns
pub mod Going
pub mod Jobs
pub mod Lines
pub mod Trying
