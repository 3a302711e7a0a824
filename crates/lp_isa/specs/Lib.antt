pub mod Machine
pub mod Translates
pub mod Programs
pub mod Runs
pub mod SoundCode
pub mod Work
