pub mod Cloned
pub mod Told
pub mod Arguing
pub mod Telling
pub mod Behind
