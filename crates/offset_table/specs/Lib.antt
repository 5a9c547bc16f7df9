pub use Rattle.offset_queue.specs.Queue
pub use Rattle.offset_tree.specs.Layout
pub use Rattle.offset_tree.specs.Keys
pub use Rattle.offset_tree.specs.Bounds
pub use Rattle.offset_tree.specs.Changes
pub mod Table
