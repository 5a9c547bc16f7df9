pub mod TextLemmas
pub mod CodingLemmas
pub mod ImageLemmas
mod Reading
pub mod LineLemmas
pub mod LinesApart
