pub mod Drawing
pub mod Opening
pub mod Parts
