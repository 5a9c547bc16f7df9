-- Of the inside, which no caller reads: drawn trees, positions in them, and the states between the steps of a fixup.
pub mod Sides
pub mod Shape
pub mod Links
pub mod Moves
pub mod Balance
pub mod Trees
pub mod InsertFixup
pub mod DeleteFixup
pub mod Attaching
pub mod Inserting
pub mod Removing
