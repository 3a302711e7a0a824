pub mod Counting
pub mod Having
pub mod Sparing
pub mod Spelling
pub mod Standing
