-- Laws by which rows of samples are proved, and the rows of a cell (CellRows), which sides 64 and 8 fill too.
pub mod SampleLaws
pub mod SampleRows
pub mod SignRows
pub mod CellRows
