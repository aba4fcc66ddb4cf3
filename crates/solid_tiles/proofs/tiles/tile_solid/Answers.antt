-- All tiles, from heights of 0.
use mathlib.Core.Path.{refl, ap, ◌∙◌}
use mathlib.Core.Bool.{true}
use native.Mathlib.Omega.{arith}
use lib.ListN.{replicate}
use Rattle.rules.specs.Drawings.{Region}
use Rattle.walk.proofs.CellLaws.{small, first_in_lem}
use Rattle.walk.proofs.LookLaws.{sound_length}
use Rattle.walk.proofs.Places.{ready_again}
use Rattle.solid_tiles.proofs.WalkLaws.{folds_walked}
use Rattle.solid_tiles.proofs.tiles.tile_solid.Goals as goal

pub cell_at-all-requires : goal.cell_at-all-requires
cell_at-all-requires c =
    let e = c.requires.ready.fault in
    record { small = small true _ e; place = first_in_lem true _ e; some = omega arith; few = omega arith }

pub slice_bounds-tiles-end : goal.slice_bounds-tiles-end
slice_bounds-tiles-end c = refl

pub slice_bounds-tiles-end-2 : goal.slice_bounds-tiles-end-2
slice_bounds-tiles-end-2 c = refl

pub tiles-requires : goal.tiles-requires
tiles-requires c =
    let k = c.cell_at-all.ensures in
    let p = c.requires in
    record {
      tile = record {
        level = p.level;
        ready = ready_again p.ready c.clear.auto.heights;
        room = p.room;
        first = p.first;
        second = p.second;
        third = p.third;
      };
      cell = k.ok;
      side = ap (λ (q : Region). q.long) k.same;
      rows = sound_length p.level.sound;
      rows_below = sound_length p.level.sound;
    }

pub returns : goal.returns
returns c =
    let r = c.requires.ready in
    folds_walked c.cell_at-all.ensures r.fault c.tiles.ensures
    (c.clear.ensures ∙ ap (λ n. replicate n 0) r.size)
