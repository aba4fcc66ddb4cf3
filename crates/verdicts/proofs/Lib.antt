-- Laws that the proofs of this crate, and of those above it, cite.
pub mod HeadLaws
pub mod KeptLaws
pub mod KeptWalk
pub mod EntryLaws
