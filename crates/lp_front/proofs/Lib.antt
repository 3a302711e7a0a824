pub mod Letters
pub mod Faulty
pub mod Units
pub mod Behind
pub mod Inside
pub mod Inheriting
