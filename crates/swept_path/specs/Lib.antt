-- The declared positions and hulls by the rules' records, and what the functions ask and promise.
pub mod Shapes
pub mod Asked
pub mod Keeps
