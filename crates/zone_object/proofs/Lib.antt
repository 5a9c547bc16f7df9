pub mod Histories
pub mod Fair
pub mod Carried
pub mod Own
