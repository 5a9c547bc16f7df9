pub use Rattle.replay_share.specs.Replay
pub mod Passes
pub mod Tasks
pub mod Columns
pub mod Zones
pub mod Merging
pub mod Transposing
