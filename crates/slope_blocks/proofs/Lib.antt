-- Laws by which a picture is shaded: short tapes (NarrowLaws), the blocks in a block (BlockLoop), windows of layers and
-- the whole picture (WindowLaws).
pub mod NarrowLaws
pub mod BlockLoop
pub mod WindowLaws
