pub use Rattle.zone_object.specs.History
pub mod Callers
pub mod Rule
