pub mod Layout
pub mod LayoutFaults
pub mod Origins
pub mod Standing
pub mod Pieces
pub mod Firsts
pub mod Caused
