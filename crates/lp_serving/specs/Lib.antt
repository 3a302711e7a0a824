pub mod Serves
pub mod Happens
pub mod Recorded
pub mod Causes
pub mod CutShort
