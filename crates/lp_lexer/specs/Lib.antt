pub mod Forms
pub mod Marks
pub mod Source
pub mod Steps
pub mod Walks
pub mod Answer
pub mod Laws
pub mod Lexis
