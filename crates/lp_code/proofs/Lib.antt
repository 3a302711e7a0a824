pub mod Indexing
pub mod NamesNoted
