-- What the contracts of the crate's inside cite, and no caller reads.
pub mod Lexemes
pub mod Tokens
pub mod ScanSteps
pub mod Progress
