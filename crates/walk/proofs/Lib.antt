-- Laws by which the drawings by tiles are proved. A level ensures `Visits` of its region, and a loop over children
-- `Folds` of a row of them (`along_x`), of rows (`along_y`) or of layers (`along_z`). A loop's invariant is `AtColumn`,
-- `AtRow` or `AtLayer` (Loops): it begins, holds again after a turn and is done by one law each. A level cites the law of
-- its case (LookLaws), and the whole drawing `walk_shown` (WalkLaws).
pub mod Draws
pub mod Along
pub mod Filling
pub mod Signs
pub mod CellLaws
pub mod LookLaws
pub mod JudgeLaws
pub mod Places
pub mod Loops
pub mod WalkLaws
pub mod Numbered
pub mod ChildLaws
pub mod ChildLoop
pub mod Clear
pub mod OpenLaws
