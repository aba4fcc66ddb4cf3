-- Tapes and grids that are accepted, and what their walks give.
pub mod Example
