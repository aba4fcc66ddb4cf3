-- What the proofs of the calls share.
pub mod CallEnds
pub mod Adding
pub mod Removing
