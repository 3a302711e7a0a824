pub mod Eventless
