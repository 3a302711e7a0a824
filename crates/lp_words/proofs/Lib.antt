pub mod Numerals
pub mod PathLaws
