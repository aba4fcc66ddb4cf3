-- Laws that the proofs of this crate cite.
pub mod ClauseLines
pub mod ClauseWalk
pub mod FieldTests
pub mod Reading
