-- Lanes, and what an estimate of a root is.
pub mod Eight
pub mod Estimates
