pub mod Owners
pub mod Puts
pub mod Residence
pub mod Entering
pub mod Ending
pub mod Programs
pub mod Idling
pub mod Adding
