pub mod Entries
pub mod Calls
pub mod Returns
pub use Rattle.lp_run.specs.Running
