-- No fault has the number 0.
pub mod NumberLaws
