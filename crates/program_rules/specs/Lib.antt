-- The program, to be read against the scope paper.
pub mod Program
