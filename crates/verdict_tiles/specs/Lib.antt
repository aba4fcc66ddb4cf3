-- What the functions of this crate, and of those above it, are held to.
pub mod Shares
