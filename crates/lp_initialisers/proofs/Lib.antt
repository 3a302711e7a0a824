pub mod InitRows
pub mod PartBases
