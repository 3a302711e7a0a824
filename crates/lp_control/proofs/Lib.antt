pub mod Offering
pub mod Answered
