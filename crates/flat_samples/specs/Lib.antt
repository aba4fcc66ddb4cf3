-- What the functions of a region's rows of samples are held to, besides the walk's.
pub mod Rows
pub mod Asked
