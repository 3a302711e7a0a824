pub mod Playing
pub mod Hosting
pub mod Causes
pub mod CutGames
