pub mod Answering
pub mod Keeping
pub mod Numbering
pub mod Closing
pub mod Paths
pub mod BareWorlds
pub mod Grown
