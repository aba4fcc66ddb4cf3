-- Tile by tile.
use mathlib.Core.Path.{◌≡◌}
use mathlib.Core.Bool.{false}
use lib.ListN.{length}
use Rattle.sweep.specs.Chunks.{block_rows}
use Rattle.picture.specs.Shapes.{grid_in}
use Rattle.rectangle.specs.Rectangles.{rectangle_in}
use Rattle.table_rules.specs.Tables.{tiles_in}
use Rattle.verdict_drawing.proofs.TileLoop.{AtTile}
use Rattle.verdict_drawing.proofs.tiles.table_tiles.Given as goal

abbrev pub invariant-loop-k : goal.invariant-loop-k
invariant-loop-k l = AtTile l.whole l.grid (tiles_in (grid_in l.grid false) (rectangle_in l.rectangle)) l.initial.table l.initial.picture l.table l.picture l.count l.k
    × (length l.work ≡ length l.initial.work)
    × (length l.first ≡ length l.initial.first)
    × (length l.second ≡ length l.initial.second)
    × (length l.slots ≡ block_rows)
    × (length l.choices ≡ length l.initial.choices)
