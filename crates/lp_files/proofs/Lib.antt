pub mod FileLemmas
pub mod PathLemmas
