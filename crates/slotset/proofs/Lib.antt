-- What each function does to the set.
pub mod SlotBits
pub mod SlotWords
