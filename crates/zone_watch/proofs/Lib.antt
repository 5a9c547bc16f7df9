pub mod Showing
pub mod Counts
pub mod Texts
