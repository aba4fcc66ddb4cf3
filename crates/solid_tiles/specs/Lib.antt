-- What the functions of the solid drawing by tiles ask.
pub mod Tiles
