-- What is proved of the swept picture and of the method.
pub mod Figures
pub mod Paths
pub mod Boxes
pub mod Positions
pub mod Loops
pub mod Regions
pub mod Pictures
pub mod Calls
