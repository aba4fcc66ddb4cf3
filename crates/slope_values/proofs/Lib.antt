-- What the proofs of the functions share.
pub mod OneAxis
pub mod Fields
