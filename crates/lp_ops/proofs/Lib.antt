pub mod ClosedLemmas
pub mod ListLemmas
