pub mod Effects
pub mod Integers
pub mod Operands
pub mod Operators
pub mod Prices
