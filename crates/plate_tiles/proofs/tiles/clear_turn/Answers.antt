-- Nothing, or the tile's cell cleared.
use mathlib.Core.Path.{refl}
use Rattle.patches.specs.Patches.{nothing}
use Rattle.plate_tiles.proofs.TileNumbers.{tile_patch}
use Rattle.plate_tiles.proofs.TileSets.{no_turn, cell_turn}
use Rattle.plate_tiles.proofs.tiles.clear_turn.Goals as goal

pub returns-then-mark-eq0 : goal.returns-then-mark-eq0
returns-then-mark-eq0 c = no_turn _ _ _ nothing _ c.if-mark-eq0.true

pub clear_cell-requires : goal.clear_cell-requires
clear_cell-requires c = tile_patch c.requires.ready c.tile.ensures

pub returns : goal.returns
returns c =
    cell_turn c.requires.for_tile.sized c.tile.ensures _ c.if-mark-eq0.false nothing nothing
    c.clear_cell.ensures (λ y x l o h. refl)
