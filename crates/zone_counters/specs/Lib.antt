pub use Rattle.zone_object.specs.History
pub mod Counting
pub mod CountingLaws
