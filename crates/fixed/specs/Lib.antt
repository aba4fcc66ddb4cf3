-- The declared structs as the records of the rules.
pub mod Shapes
