-- Laws that the proofs of this crate, and of those above it, cite.
pub mod ByteClauses
pub mod FieldValues
pub mod ListClauses
pub mod WrittenBytes
