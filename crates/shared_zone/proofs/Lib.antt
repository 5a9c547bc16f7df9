pub mod Lists
pub mod Rooms
pub mod RuleKept
pub mod Calls
