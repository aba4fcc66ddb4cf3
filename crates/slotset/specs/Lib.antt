-- What the contracts of this crate, and of those above it, cite besides the rules.
pub mod SlotSets
