pub mod Offers
pub mod Returns
pub mod Playing
pub mod Texts
