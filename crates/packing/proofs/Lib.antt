-- Laws that the proofs of this crate cite.
pub mod Copying
pub mod Packing
pub mod Numbers
pub mod Calls
pub mod Writing
