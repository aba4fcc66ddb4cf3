-- What packing a list leaves of an output.
pub mod Packed
