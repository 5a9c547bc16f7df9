pub mod Word
pub mod Crc
pub mod Order
pub mod Expr
pub mod Fronts
pub mod Printing
pub mod Reading
pub mod Value
