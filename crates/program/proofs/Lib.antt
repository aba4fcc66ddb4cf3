-- What the proofs of the program share.
pub mod Records
pub mod Layers
pub mod Inputs
