pub mod DueLemmas
pub mod FunctionLemmas
pub mod IndexLemmas
pub mod KeptLemmas
pub mod LineLemmas
pub mod MarkLemmas
pub mod SpotLemmas
pub mod TimingLemmas
