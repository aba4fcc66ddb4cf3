-- What the proofs of the functions share.
pub mod Arms
pub mod SlotLists
pub mod SlopeRuns
