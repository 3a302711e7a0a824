pub mod Each
pub mod Laid
pub mod Meant
pub use Rattle.lp_codegen_expr.specs.Names
