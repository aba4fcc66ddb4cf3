-- Laws by which a rectangle's drawing is proved.
pub mod Numbering
pub mod TileLoop
pub mod Laying
pub mod TapeTurn
