pub mod Grid
pub mod Line
