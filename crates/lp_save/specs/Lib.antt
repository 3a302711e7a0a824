pub mod Desks
pub mod Names
pub mod Reading
pub mod SaveText
pub mod States
