-- Laws of a look at a region, and the numbers of all positions.
pub mod LookLaws
pub mod NumberLaws
pub mod TileLaws
