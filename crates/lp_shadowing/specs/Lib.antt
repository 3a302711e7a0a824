pub mod Shadowing
