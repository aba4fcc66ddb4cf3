-- Rectangles of tiles.
pub mod Rectangles
