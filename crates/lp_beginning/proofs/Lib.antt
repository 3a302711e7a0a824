pub mod SeenParts
pub mod Words
pub mod Made
pub mod Staying
pub mod Brought
pub mod Stopped
