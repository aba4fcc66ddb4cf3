-- What the contracts of this crate, and of those above it, cite besides the rules.
pub mod Bytes
pub mod Heads
pub mod Steps
pub mod Sheets
pub mod Joins
pub mod Says
pub mod Parts
pub mod Texts
