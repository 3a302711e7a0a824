pub mod Gathering
pub mod Loading
pub mod OneAnswer
pub mod OneLoad
pub mod OneReporting
pub mod OneUnit
pub mod Telling
pub mod Unique
