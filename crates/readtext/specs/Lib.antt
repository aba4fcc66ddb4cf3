-- What the program answers.
pub mod Says
