-- What the loops of this crate rest on.
pub mod Materials
pub mod Columns
pub mod RowBytes
pub mod Parts
pub mod HeightRows
pub mod ByteRows
pub mod Counts
