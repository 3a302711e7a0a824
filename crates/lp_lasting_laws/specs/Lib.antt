pub mod Lasting
pub mod Numbers
