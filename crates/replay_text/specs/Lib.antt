pub mod ReplayText
pub mod After
pub mod Images
pub mod Telling
