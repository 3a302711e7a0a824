pub mod Names
pub mod Owners
pub mod Inside
pub mod Programs
pub mod Slots
