-- Laws of a solid's picture at a region: its rows (CellRows), one sample (SampleLaws), its chunks in the walk's order
-- (ChunkLaws), listed for a sweep (ListLaws) and run (RunLaws).
pub mod CellRows
pub mod ChunkLaws
pub mod ListLaws
pub mod RunLaws
pub mod SampleLaws
pub mod WholeLaws
