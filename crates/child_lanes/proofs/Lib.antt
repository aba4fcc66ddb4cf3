-- Laws that the proofs of this crate, and of those above it, cite.
mod BoxRows
pub mod RunLaws
