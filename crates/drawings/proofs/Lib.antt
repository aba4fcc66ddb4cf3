-- What the proofs of the drawing calls share.
pub mod TapeWords
pub mod Calls
