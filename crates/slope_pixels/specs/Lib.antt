-- What shading some pixels promises (Shades).
pub mod Shades
pub mod Asked
