pub mod Subjects
pub mod Compiled
pub mod Reaching
pub mod Leading
pub use Rattle.lp_initialisers.specs.Rows
