-- What the functions of a solid's picture at a region ask, and the chunks that its samples are run in.
pub mod Chunks
pub mod Samples
pub mod Whole
