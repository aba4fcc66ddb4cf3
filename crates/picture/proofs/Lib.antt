-- What the loops and the laws of this crate rest on; the crates above cite them too.
pub mod Answers
pub mod LentParts
pub mod HeightRows
pub mod GridWords
pub mod GridTests
pub mod Grids
pub mod BitBytes
pub mod BitMarks
pub mod BitShows
pub mod PartLaws
pub mod PictureSizes
