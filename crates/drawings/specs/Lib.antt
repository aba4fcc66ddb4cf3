-- What the drawings of an accepted tape give.
pub mod Drawn
