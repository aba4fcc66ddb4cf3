-- Laws of paths, moved boxes and kept positions.
pub mod PathLaws
pub mod KeepLaws
