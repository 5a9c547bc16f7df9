mod PartLemmas
pub mod LineLemmas
mod WordLemmas
mod LocationLemmas
mod PairLemmas
mod NumberLemmas
mod DigitLemmas
mod LimitLemmas
mod KeyLemmas
