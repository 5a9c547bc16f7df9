pub mod KeyLemmas
pub mod GridLemmas
pub mod LineLemmas
