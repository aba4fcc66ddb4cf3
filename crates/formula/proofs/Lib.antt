-- Laws that the proofs of this crate cite.
pub mod Bytes
pub mod Numbers
pub mod Names
pub mod Sheets
pub mod PartLaws
pub mod PartsRead
pub mod TextLaws
