-- Laws by which the regions of side 64 and 8 are proved.
pub mod CellParts
