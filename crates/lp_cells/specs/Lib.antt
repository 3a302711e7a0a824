pub mod Cells
pub mod Mapping
pub mod Refusals
pub mod Slots
