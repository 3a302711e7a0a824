pub mod Machine
pub mod Depth
pub mod Capped
pub mod View
pub mod Levels
pub mod StackView
pub mod Moves
pub mod Theorem
