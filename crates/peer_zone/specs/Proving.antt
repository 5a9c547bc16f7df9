pub mod Found
pub mod Kept
pub mod Chosen
pub mod Sums
pub mod Blocks
pub mod Lists
