pub mod Computed
pub mod Kinds
