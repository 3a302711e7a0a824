pub mod Talk
pub mod Greeting
