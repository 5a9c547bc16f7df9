pub mod Tables
pub mod Wholes
pub mod Fresh
pub mod CallEffects
