pub mod LinkLemmas
pub mod NextLemmas
pub mod PlaceLemmas
pub mod TableLemmas
