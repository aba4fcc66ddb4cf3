-- What the proofs of the call share.
pub mod TapeSlopes
pub mod Calls
