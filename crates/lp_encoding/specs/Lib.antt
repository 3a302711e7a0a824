pub mod Forms
pub mod Variants
pub mod Instructions
pub mod Programs
