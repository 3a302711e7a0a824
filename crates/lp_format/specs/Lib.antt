pub mod Answers
pub mod Conversions
pub mod Fill
pub mod Forms
pub mod Formatted
pub mod Laws
pub mod Spelled
