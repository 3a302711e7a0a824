pub mod Counting
pub mod Lowering
pub mod Named
pub mod Owned
pub mod Placing
pub mod PlacingStmts
pub mod Programs
pub mod Slots
