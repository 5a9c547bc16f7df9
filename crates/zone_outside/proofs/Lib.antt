pub mod Joins
pub mod DigitLemmas
pub mod RepeatedLemmas
pub mod ShelfLemmas
pub mod BufferLemmas
