-- What a drawing with slopes gives.
pub mod Sloped
