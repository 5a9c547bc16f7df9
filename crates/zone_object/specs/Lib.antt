pub use Rattle.slab_model.specs.State
pub mod History
pub mod Fair
pub mod Carried
