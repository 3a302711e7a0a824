pub mod Machine
pub mod Depth
pub mod View
pub mod Arounds
pub mod StackView
pub mod Endings
pub mod Moves
pub mod Theorem
