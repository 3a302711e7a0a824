pub mod Carrying
pub mod Turning
pub mod Starting
pub mod Knowing
pub mod Driving
pub mod Tidying
pub use Rattle.lp_vm.specs.Causes
pub use Rattle.lp_vm.specs.declared.fault.VmFault
