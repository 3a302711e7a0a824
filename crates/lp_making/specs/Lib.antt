pub mod Trees
pub mod Versions
pub mod Entries
pub mod Objects
pub mod Reloads
pub mod Calls
