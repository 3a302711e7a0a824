pub mod Tied
pub mod All
pub mod Table
pub mod Serving
pub mod Laws
pub mod Index
