pub mod Clear
pub mod Cleared
pub mod Closed
pub mod Flows
pub mod Functions
pub mod Initialisers
pub mod Led
pub mod Switches
