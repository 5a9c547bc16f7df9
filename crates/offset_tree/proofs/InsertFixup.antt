-- The steps of the insert fixup.
pub mod Rising
pub mod Conflict
pub mod Uncle
pub mod Straight
