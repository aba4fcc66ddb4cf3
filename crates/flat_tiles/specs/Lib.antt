-- What the functions of the flat drawing by tiles are held to, besides the walk's.
pub mod Rects
