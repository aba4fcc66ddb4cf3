-- Laws that the proofs of this crate cite.
pub mod Raising
pub mod Copying
pub mod Checking
