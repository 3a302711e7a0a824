pub mod Memory
pub mod Later
pub mod Names
pub mod Callees
pub mod Leads
pub mod Chains
pub mod Entries
pub mod Inits
