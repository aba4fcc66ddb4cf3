-- Done by the look, or cut and its children visited.
use mathlib.Core.Path.{refl}
use mathlib.Core.Bool.{true}
use Prim.Native.Nat.{◌*◌}
use native.Mathlib.Omega.{arith}
use lib.ListN.{length}
use Rattle.rules.specs.Drawings.{solid_bound}
use Rattle.walk.specs.Cells.{region_in}
use Rattle.walk.specs.Walks.{Opened}
use Rattle.walk.proofs.LookLaws.{sound_length, done_of, open_of, done_visits, open_level, open_fewer}
use Rattle.walk.proofs.OpenLaws.{open_children}
use Rattle.walk.proofs.Places.{ready_again}
use Rattle.solid_blocks.specs.Sides.{below16}
use Rattle.solid_tiles.proofs.tiles.visit_tile.Goals as goal
use Rattle.solid_tiles.proofs.tiles.visit_tile.Goals.{In-Open}

opened : (c : In-Open)
    → let a = c.args in
    Opened true a.whole.now a.whole.now a.grid (region_in a.cell) a.picture.now
    c.look-seen.new.picture (length a.whole.now) c.look-seen.new.work c.look-seen.new.next c.in-Open.start
opened c = open_of true _ _ _ _ _ _ _ _ _ c.look-seen.ensures c.in-Open.is

pub look-seen-requires : goal.look-seen-requires
look-seen-requires c =
    let p = c.requires in
    let t = p.tile in
    record {
      level = t.level;
      ready = t.ready;
      cell = p.cell;
      marks = record { behind = omega arith; within = omega (arith, t.room) };
      words = t.first;
    }

pub offset_bounds-first-start : goal.offset_bounds-first-start
offset_bounds-first-start c =
    let o = (opened (goal.at.offset_bounds-first-start c).In-Open).cut.start in
    let g = c.well_formed in
    omega (arith, c.look-seen.auto.next)

pub slice_bounds-short-count : goal.slice_bounds-short-count
slice_bounds-short-count c = (opened (goal.at.slice_bounds-short-count c).In-Open).cut.start

-- Both tapes are sound; which of them is lent shows in what is drawn and counted.
pub sixteens-inside-requires : goal.sixteens-inside-requires
sixteens-inside-requires c =
    let p = c.requires in
    let whole = p.tile.level in
    let short = open_level whole (opened (goal.at.sixteens-inside-requires c).In-Open) in record {
      for_sixteens = record {
        level = search (short, whole);
        ready = ready_again p.tile.ready c.look-seen.auto.picture;
        cell = p.cell;
        side = p.side;
        room = omega (arith, p.tile.room, c.look-seen.auto.work);
        second = p.tile.second;
        third = p.tile.third;
      };
      whole_in_bounds = p.rows;
      whole_in_below = p.rows_below;
    }

pub overflow_add-result : goal.overflow_add-result
overflow_add-result c =
    let s = c.requires.tile.level.sound in
    omega (arith, sound_length s, open_fewer s (opened (goal.at.overflow_add-result c).In-Open), c.sixteens-inside.ensures.bound)

pub returns-in-Done : goal.returns-in-Done
returns-in-Done c =
    done_visits solid_bound 16 below16 refl (omega arith)
    (done_of true _ _ _ _ _ _ _ _ _ c.look-seen.ensures c.in-Done.is)

pub returns-in-Open : goal.returns-in-Open
returns-in-Open c =
    let p = c.requires in
    open_children 16 4 p.tile.level.sound (omega arith) (omega arith) p.side p.tile.ready.fault p.cell
    (opened (goal.at.returns-in-Open c).In-Open) below16 (64 * 4161) c.sixteens-inside.ensures
