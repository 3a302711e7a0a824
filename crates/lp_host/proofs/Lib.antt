pub mod HostedRuns
pub mod Played
pub mod Blaming
pub mod Shortened
