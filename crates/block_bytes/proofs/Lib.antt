pub mod Putting
pub mod BytesLemmas
