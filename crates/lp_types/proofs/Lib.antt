mod Adding
mod CheckSteps
mod Clearing
mod NameLemmas
mod Seen
mod SpanLemmas
mod Spelled
mod StmtSteps
