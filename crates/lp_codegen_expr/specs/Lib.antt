pub mod Found
pub mod Names
pub mod Drafts
pub mod Clear
