-- What the contracts of this crate cite besides the rules.
pub mod Shapes
pub mod Heights
pub mod Bits
pub mod Parts
