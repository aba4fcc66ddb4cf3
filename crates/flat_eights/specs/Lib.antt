-- What the functions of the regions of side 8 are held to, besides the walk's.
pub mod Eights
pub mod Sides
