pub mod Logs
pub mod Calls
pub mod Asked
pub mod Journals
pub mod Opening
pub mod Share
pub mod Replay
pub mod OneReplay
