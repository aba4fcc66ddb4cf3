-- The tiles, with slots and choices of their own.
use mathlib.Core.Path.{refl}
use Rattle.walk.proofs.LookLaws.{sound_length}
use Rattle.verdict_drawing.proofs.tiles.rectangle_tiles.Goals as goal

pub slice_bounds-table_tiles-end : goal.slice_bounds-table_tiles-end
slice_bounds-table_tiles-end c = refl

pub table_tiles-requires : goal.table_tiles-requires
table_tiles-requires c =
    record { rect = c.requires; size = refl; rows = sound_length c.requires.lent.level.sound }
