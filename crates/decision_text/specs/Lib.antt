pub mod Coding
pub mod Amounts
pub mod Hexadecimal
pub mod CheckText
pub mod HistoryText
pub mod TailText
pub mod DecisionText
pub mod Telling
