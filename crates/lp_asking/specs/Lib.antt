pub mod Asking
pub mod Endings
pub mod Courses
pub mod Stopping
pub mod Resuming
pub mod Beginning
pub use Rattle.lp_frames.specs.declared.entry.Callee
