-- What the contracts of this crate cite besides the rules.
pub mod Kept
pub mod Records
pub mod Verdicts
