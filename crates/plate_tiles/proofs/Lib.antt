-- What is proved of tiles by their number, and of what is done to their bytes.
pub mod TileNumbers
pub mod TileSets
pub mod JoinLaws
