-- Done by the look, or cut and its children visited.
use mathlib.Core.Path.{refl, ap}
use mathlib.Core.Bool.{false}
use Prim.Native.Nat.{◌*◌}
use native.Mathlib.Omega.{arith}
use lib.ListN.{length}
use Rattle.rules.specs.Drawings.{flat_bound}
use Rattle.picture.proofs.PartLaws.{apart_none}
use Rattle.walk.proofs.LookLaws.{sound_length, done_of, open_of, done_visits, open_level, open_fewer}
use Rattle.walk.proofs.OpenLaws.{open_children}
use Rattle.walk.proofs.Places.{ready_again}
use Rattle.flat_eights.specs.Sides.{below8}
use Rattle.flat_eights.proofs.CellParts.{same_blank}
use Rattle.flat_tiles.proofs.tiles.settle_tile.Goals as goal

pub offset_bounds-first-start : goal.offset_bounds-first-start
offset_bounds-first-start c =
    let o = (open_of false _ _ _ _ _ _ _ _ _ c.requires.looked c.in-Open.is).cut.start in
    let g = c.well_formed in
    omega arith

pub slice_bounds-short-count : goal.slice_bounds-short-count
slice_bounds-short-count c = (open_of false _ _ _ _ _ _ _ _ _ c.requires.looked c.in-Open.is).cut.start

pub eights-inside-requires : goal.eights-inside-requires
eights-inside-requires c =
    let p = c.requires.tile in
    let l = p.lent in
    let o = open_of false _ _ _ _ _ _ _ _ _ c.requires.looked c.in-Open.is in
    let short = open_level l.level o in
    record {
      level = search short;
      ready = ready_again l.ready (ap length o.same);
      cell = p.ok;
      side = p.side;
      even = p.start;
      room = l.marks;
      second = l.words_second;
      slots = p.size;
      rows = p.rows;
      blank = same_blank o.same p.blank;
    }

pub overflow_add-result : goal.overflow_add-result
overflow_add-result c =
    let w = c.requires.tile.lent.level.sound in
    omega (arith, sound_length w, open_fewer w (open_of false _ _ _ _ _ _ _ _ _ c.requires.looked c.in-Open.is), c.eights-inside.ensures.folds.bound)

pub returns-in-Done : goal.returns-in-Done
returns-in-Done c = record {
  tile_settled = record {
    over = λ before j.
        done_visits flat_bound 8 below8 refl (omega arith)
        (done_of false _ _ _ _ _ _ _ _ _ j c.in-Done.is);
  };
  slots_len = c.requires.tile.size;
  apart = apart_none _ _ _ _ _ _;
}

pub returns-in-Open : goal.returns-in-Open
returns-in-Open c =
    let p = c.requires.tile in
    let l = p.lent in record {
      tile_settled = record {
        over = λ before j.
            open_children 8 8 l.level.sound (omega arith) (omega arith) p.side l.ready.fault p.ok
            (open_of false _ _ _ _ _ _ _ _ _ j c.in-Open.is) below8 (64 * 65) c.eights-inside.ensures.folds;
      };
      slots_len = c.eights-inside.ensures.slots_len;
      apart = c.eights-inside.ensures.apart;
    }
