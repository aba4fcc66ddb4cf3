-- What a block's short tape promises, and the shading of a whole picture (Narrow).
pub mod Narrow
pub mod Blocks
