-- The tiles, with slots and choices of their own.
use mathlib.Core.Path.{refl}
use Rattle.walk.proofs.LookLaws.{sound_length}
use Rattle.flat_tiles.proofs.tiles.tiles_in.Goals as goal

pub slice_bounds-tiles-end : goal.slice_bounds-tiles-end
slice_bounds-tiles-end c = refl

pub slice_bounds-tiles-end-2 : goal.slice_bounds-tiles-end-2
slice_bounds-tiles-end-2 c = refl

pub tiles-requires : goal.tiles-requires
tiles-requires c =
    let p = c.requires in
    let h = sound_length p.lent.level.sound in
    record { rect = p; size = refl; rows = h; rows_own = h }

pub returns : goal.returns
returns c = let e = c.tiles.ensures in record {
  folds = e.folds;
  tiles_apart = e.tiles_apart;
}
