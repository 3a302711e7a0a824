pub mod Lays
pub mod Tables
pub use Rattle.lp_codegen_layout.specs.Laid
