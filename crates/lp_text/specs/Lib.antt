pub mod Forms
pub mod Gives
pub mod Pieces
pub mod Scans
pub mod Singles
pub mod Texts
