pub mod Walks
mod NextItems
mod Sets
pub mod Fits
pub mod Around
