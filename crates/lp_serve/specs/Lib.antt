pub mod Standing
pub mod Rounds
pub mod Served
pub mod Causes
pub mod CutRuns
