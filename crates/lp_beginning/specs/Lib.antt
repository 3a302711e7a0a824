pub mod Ends
pub mod Jobs
pub mod Beginning
pub mod Reports
pub mod Feeding
