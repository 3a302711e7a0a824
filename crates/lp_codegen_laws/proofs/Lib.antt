pub mod Expressions
pub mod Known
pub mod Layouts
pub mod Statements
pub mod Whole
