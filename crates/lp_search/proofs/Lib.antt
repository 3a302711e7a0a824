pub mod CriticalLemmas
pub mod MismatchLemmas
pub mod OrderLemmas
pub mod PlaceLemmas
pub mod SuffixLemmas
