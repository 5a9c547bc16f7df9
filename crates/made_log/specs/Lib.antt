pub mod Draws
pub mod MadeLog
pub mod MadeConfig
pub mod Summary
