-- Laws by which the drawing in an order is proved, and the tiles by their number.
pub mod OrderWalk
pub mod TileNumbers
pub mod ListLine
pub mod Calls
