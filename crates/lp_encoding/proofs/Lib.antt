pub mod Laws
pub mod Loops
pub mod Main
pub mod Operands
pub mod Puts
