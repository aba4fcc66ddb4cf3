-- Laws that the proofs of this crate cite.
pub mod Units
pub mod Rounding
pub mod Probing
