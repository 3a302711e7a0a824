pub mod InMemory
pub mod StoredFiles
