-- Laws by which pixels are shaded: pixels and parts (ShadeLaws), the window of a block's heights (SeenLaws).
pub mod ShadeLaws
pub mod SeenLaws
