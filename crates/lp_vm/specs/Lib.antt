pub mod Growing
pub mod Faults
pub mod Causes
pub mod Going
pub mod Requests
pub mod Answering
pub mod Working
pub mod Cycle
pub mod Laying
pub mod Efuns
pub mod Looking
pub mod Beginning
pub mod Turns
pub mod Making
pub mod Loading
pub mod Loaded
pub mod Jobs
pub mod Applying
pub mod Initialising
pub mod LoadFaults
pub mod Cloning
pub mod Commanding
pub mod CommandEfun
pub mod ObjectLoading
pub use Rattle.lp_loading.specs.Going as LoadGoing
pub use Rattle.lp_loading.specs.declared.job.Answer as LoadAnswer
pub use Rattle.lp_reaching.specs.Reaching
