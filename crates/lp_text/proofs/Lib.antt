pub mod FindLemmas
pub mod FormLemmas
pub mod PieceLemmas
pub mod ScanLemmas
