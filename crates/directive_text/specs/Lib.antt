pub mod Bytes
pub mod Spelling
pub mod Faults
pub mod Marks
pub mod Printing
pub mod Internals
