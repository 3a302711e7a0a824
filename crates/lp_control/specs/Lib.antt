pub mod Orders
pub mod Operator
pub mod Laws
