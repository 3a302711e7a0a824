pub mod Letters
pub mod Items
pub mod Told
