-- What the proofs of the call share.
pub mod Calls
