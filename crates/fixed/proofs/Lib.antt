-- What the proofs of the functions share.
pub mod Words
pub mod Ends
pub mod Division
pub mod Spans
pub mod Quotients
