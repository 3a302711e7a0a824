pub mod Values
pub mod Serving
pub mod Words
