-- What the functions of the walk are held to.
pub mod Cells
pub mod Children
pub mod Draws
pub mod Judges
pub mod Verdicts
pub mod Walks
