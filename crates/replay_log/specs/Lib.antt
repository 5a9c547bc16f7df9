pub mod Lines
pub mod Words
pub mod Requests
pub mod Keys
pub mod Limits
pub mod Reading
pub mod Next
