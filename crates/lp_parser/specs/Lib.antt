pub mod Machine
pub mod Depth
pub mod Theorem
pub mod Stops
pub mod View
pub mod Moves
