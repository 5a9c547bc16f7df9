pub mod TextLemmas
pub mod Served
pub mod WordsLemmas
mod TellingLemmas
