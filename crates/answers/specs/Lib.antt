-- The lines of a drawing, and what answers promise.
pub mod Lines
pub mod Says
