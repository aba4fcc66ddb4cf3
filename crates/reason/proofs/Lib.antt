-- Laws that the proofs of this crate cite.
pub mod Pixels
pub mod Levels
pub mod Calls
