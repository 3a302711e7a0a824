pub mod ErrorLemmas
pub mod HashLemmas
pub mod ReadLemmas
