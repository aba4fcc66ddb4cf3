-- What the functions of the solid drawing by tiles are held to, besides the walk's.
pub mod Blocks
pub mod Inside
pub mod Sides
