pub mod CellLemmas
pub mod ClosedLemmas
pub mod MappingLemmas
pub mod ObjectLemmas
pub mod SlotLemmas
