pub mod EfunList
pub mod EfunKinds
pub mod Code
pub mod Sound
