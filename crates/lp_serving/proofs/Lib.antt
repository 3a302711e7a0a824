pub mod EventsRecorded
pub mod Going
pub mod Happening
pub mod LinesHeard
pub mod Causes
pub mod Cutting
