pub mod Bases
pub mod Latest
pub mod Lists
pub mod Places
pub mod Rows
pub mod Spelled
pub mod Texts
pub mod Trees
