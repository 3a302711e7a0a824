pub mod WritingLemmas
pub mod EventLemmas
pub mod LengthLemmas
pub mod WholeLemmas
pub mod ScriptLemmas
