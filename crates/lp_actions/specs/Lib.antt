pub mod Actions
pub mod Held
pub mod Stored
pub use Rattle.lp_places.specs.Places
