pub mod AnswerLemmas
pub mod FormLemmas
pub mod LawLemmas
pub mod SpellLemmas
pub mod WriteLemmas
