pub mod Fresh
pub mod Known
pub mod Laying
pub mod Meant
pub mod Seen
pub mod Standing
